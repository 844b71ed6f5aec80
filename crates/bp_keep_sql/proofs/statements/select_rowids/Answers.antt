use Rattle.std.proofs.Common.{[], inl, inr, rules}
use Rattle.sqlite.specs.Held.{state}
use Rattle.bp_keep_sql.proofs.TextLemmas.{rowids_text}
use Rattle.bp_keep_sql.proofs.KindLemmas.{commits_nothing, rowids_read}
use Rattle.bp_keep_sql.proofs.LeaveLemmas.{left_so, outside_of}
use Rattle.bp_keep_sql.proofs.NumberLemmas.{numbers_on}
use Rattle.bp_keep_sql.proofs.StatementLemmas.{reads_left, reads_same}
use Rattle.bp_keep_sql.proofs.statements.select_rowids.Goals as goal

pub returns-clause-rise : goal.returns-clause-rise
returns-clause-rise g c clean has =
    let old = state g.S.Store c.args.conn.now in
    let new = state g.S.Store c.query_all.new.self in
    numbers_on (λ v. v.items) old new c.query_all.result has (c.query_all.ensures.ok clean)

pub returns-clause-leaves : goal.returns-clause-leaves
returns-clause-leaves g c =
    let old = state g.S.Store c.args.conn.now in
    let new = state g.S.Store c.query_all.new.self in
    left_so old new (outside_of _ _ c.is_autocommit.ensures.value (search rules))
    c.query_all.ensures.survives.clean (c.is_autocommit.ensures.settled (search rules))
    (λ clean. reads_left (λ v. v.items) rowids_text [] old new c.query_all.result rowids_read
    (c.query_all.ensures.ok clean) (c.query_all.ensures.err clean))

pub returns-clause-same : goal.returns-clause-same
returns-clause-same g c clean =
    let old = state g.S.Store c.args.conn.now in
    let new = state g.S.Store c.query_all.new.self in
    reads_same (λ v. v.items) rowids_text [] old new c.query_all.result rowids_read
    (c.query_all.ensures.ok clean)

pub returns-clause-stops : goal.returns-clause-stops
returns-clause-stops g c clean db left = elim (c.query_all.ensures.survives.crash clean db left) [
  | inl before ↦ before
  | inr made ↦ absurd (commits_nothing rowids_text [] (state g.S.Store c.args.conn.now) db rowids_read made)
]
