use Rattle.std.proofs.Common.{arith}
use Rattle.sqlite.specs.Held.{state}
use Rattle.sqlite.specs.State.{HasCleanDisk}
use Rattle.bp_keep_sql.proofs.AskedLemmas.{opens_made}
use Rattle.bp_keep_sql.proofs.ToldLemmas.{same_created, same_then}
use Rattle.bp_keep_sql.proofs.load.open_table.Goals as goal

pub returns-in_err-create_table-clause-same : goal.returns-in_err-create_table-clause-same
returns-in_err-create_table-clause-same g c =
    let made = c.create_table.ensures in
    same_created (state g.S.Store c.args.conn.now) (state g.S.Store c.create_table.new.conn)
    c.create_table.result made.keeps made.made made.left

pub returns-clause-same : goal.returns-clause-same
returns-clause-same g c =
    let made = c.create_table.ensures in
    let old = state g.S.Store c.args.conn.now in
    let mid = state g.S.Store c.create_table.new.conn in
    same_then old mid (state g.S.Store c.test_rowids.new.conn)
    (same_created old mid c.create_table.result made.keeps made.made made.left)
    c.test_rowids.ensures.leaves

pub returns-clause-asked : goal.returns-clause-asked
returns-clause-asked g c clean =
    let early : HasCleanDisk (state g.S.Store c.create_table.new.conn) =
    omega (arith, c.test_rowids.ensures.leaves.clean, clean) in
    opens_made g.S.Store c.args.conn.now c.create_table.new.conn c.test_rowids.new.conn _ c.test_rowids.result
    (c.in_ok-create_table.ensures.asked early) c.create_table.ensures.limit (c.test_rowids.ensures.asked clean)

pub returns-clause-stops : goal.returns-clause-stops
returns-clause-stops g c clean db left =
    let early : HasCleanDisk (state g.S.Store c.create_table.new.conn) =
    omega (arith, c.test_rowids.ensures.leaves.clean, clean) in
    c.create_table.ensures.stops early db (c.test_rowids.ensures.stops clean db left)
