use Rattle.std.proofs.Common.{[], inl, inr, rules}
use Rattle.sqlite.specs.Held.{state}
use Rattle.bp_keep_sql.proofs.TextLemmas.{select_text}
use Rattle.bp_keep_sql.proofs.KindLemmas.{commits_nothing, select_reads}
use Rattle.bp_keep_sql.proofs.LeaveLemmas.{left_so, outside_of}
use Rattle.bp_keep_sql.proofs.StatementLemmas.{reads_left, select_rows_are, select_lacking}
use Rattle.bp_keep_sql.proofs.statements.select_rows.Goals as goal

pub returns-clause-rows : goal.returns-clause-rows
returns-clause-rows g c clean has numbered =
    let old = state g.S.Store c.args.conn.now in
    let new = state g.S.Store c.query_all.new.self in
    select_rows_are (λ v. v.items) old new c.query_all.result c.schema-schema.ensures.live
    (c.query_all.ensures.ok clean) has numbered

pub returns-clause-lacking : goal.returns-clause-lacking
returns-clause-lacking g c clean has =
    let old = state g.S.Store c.args.conn.now in
    let new = state g.S.Store c.query_all.new.self in
    select_lacking (λ v. v.items) old new c.query_all.result (c.query_all.ensures.ok clean) has

pub returns-clause-leaves : goal.returns-clause-leaves
returns-clause-leaves g c =
    let old = state g.S.Store c.args.conn.now in
    let new = state g.S.Store c.query_all.new.self in
    left_so old new (outside_of _ _ c.is_autocommit.ensures.value (search rules))
    c.query_all.ensures.survives.clean (c.is_autocommit.ensures.settled (search rules))
    (λ clean. reads_left (λ v. v.items) select_text [] old new c.query_all.result select_reads
    (c.query_all.ensures.ok clean) (c.query_all.ensures.err clean))

pub returns-clause-stops : goal.returns-clause-stops
returns-clause-stops g c clean db left = elim (c.query_all.ensures.survives.crash clean db left) [
  | inl before ↦ before
  | inr made ↦ absurd (commits_nothing select_text [] (state g.S.Store c.args.conn.now) db select_reads made)
]
