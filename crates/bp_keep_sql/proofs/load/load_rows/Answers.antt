use Rattle.std.proofs.Common.{not, ap, ◌∙◌, arith}
use Rattle.sqlite.specs.Held.{state}
use Rattle.sqlite.specs.State.{HasCleanDisk}
use Rattle.bp_keep_sql.proofs.AskedLemmas.{loads_read, loads_refused}
use Rattle.bp_keep_sql.proofs.StopLemmas.{left_by_load}
use Rattle.bp_keep_sql.proofs.ToldLemmas.{loads_told, same_then}
use Rattle.bp_keep_sql.proofs.load.load_rows.Goals as goal

pub returns-clause-told : goal.returns-clause-told
returns-clause-told g c =
    let read = c.read_table.ensures in
    loads_told (λ v. v.items) c.open_once.new.numbered (state g.S.Store c.open_once.new.conn)
    (state g.S.Store c.read_table.new.conn) c.read_table.result
    c.in_ok-open_once.ensures.opened c.in_ok-open_once.ensures.numbered read.leaves read.rows read.lacking

pub returns-clause-same : goal.returns-clause-same
returns-clause-same g c =
    same_then (state g.S.Store c.args.conn.now) (state g.S.Store c.open_once.new.conn)
    (state g.S.Store c.read_table.new.conn)
    c.in_ok-open_once.ensures.same c.read_table.ensures.leaves

pub returns-clause-loaded : goal.returns-clause-loaded
returns-clause-loaded g c clean =
    let early : HasCleanDisk (state g.S.Store c.open_once.new.conn) =
    omega (arith, c.read_table.ensures.leaves.clean, clean) in
    loads_read g.S.Store c.args.numbered.now c.args.conn.now c.open_once.new.conn c.read_table.new.conn _
    (c.in_ok-open_once.ensures.asked early) c.open_once.ensures.limit (λ v. v.items) c.read_table.result
    (c.read_table.ensures.read clean)

pub returns-clause-refused : goal.returns-clause-refused
returns-clause-refused g c clean =
    let early : HasCleanDisk (state g.S.Store c.open_once.new.conn) =
    omega (arith, c.read_table.ensures.leaves.clean, clean) in
    loads_refused g.S.Store c.args.numbered.now c.args.conn.now c.open_once.new.conn c.read_table.new.conn _
    (c.in_ok-open_once.ensures.asked early) c.open_once.ensures.limit (λ v. v.items) c.read_table.result
    (c.read_table.ensures.refused clean)

pub returns-in_err-open_once-clause-stopped : goal.returns-in_err-open_once-clause-stopped
returns-in_err-open_once-clause-stopped g c clean =
    let test = c.is_autocommit-settled.ensures in
    left_by_load (state g.S.Store c.args.conn.now) c.schema-schema.ensures.live
    (λ outside. test.settled (test.value ∙ ap not outside))
    (λ db o left. g.met.S.Store.settled c.args.conn.now.store db o left)
    (state g.S.Store c.open_once.new.conn) (c.open_once.ensures.stops clean)

pub returns-clause-stopped : goal.returns-clause-stopped
returns-clause-stopped g c clean =
    let early : HasCleanDisk (state g.S.Store c.open_once.new.conn) =
    omega (arith, c.read_table.ensures.leaves.clean, clean) in
    let test = c.is_autocommit-settled.ensures in
    left_by_load (state g.S.Store c.args.conn.now) c.schema-schema.ensures.live
    (λ outside. test.settled (test.value ∙ ap not outside))
    (λ db o left. g.met.S.Store.settled c.args.conn.now.store db o left)
    (state g.S.Store c.read_table.new.conn)
    (λ db left. c.open_once.ensures.stops early db (c.read_table.ensures.stops clean db left))
