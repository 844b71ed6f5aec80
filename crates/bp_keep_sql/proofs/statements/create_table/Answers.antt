use Rattle.std.proofs.Common.{inl, inr, rules}
use Rattle.sqlite.specs.Held.{state}
use Rattle.bp_keep_sql.proofs.LeaveLemmas.{kept_so, outside_of, refused_so}
use Rattle.bp_keep_sql.proofs.ReadLemmas.{may_make}
use Rattle.bp_keep_sql.proofs.StatementLemmas.{made, create_keeps, create_left, create_mode}
use Rattle.bp_keep_sql.proofs.statements.create_table.Goals as goal

pub returns-clause-made : goal.returns-clause-made
returns-clause-made g c clean has =
    let old = state g.S.Store c.args.conn.now in
    let new = state g.S.Store c.execute.new.self in
    made old new c.execute.result has (c.execute.ensures.runs clean)

pub returns-clause-keeps : goal.returns-clause-keeps
returns-clause-keeps g c =
    let old = state g.S.Store c.args.conn.now in
    let new = state g.S.Store c.execute.new.self in
    kept_so old new c.execute.ensures.survives.clean
    (λ clean auto. create_mode old new c.execute.result auto (c.execute.ensures.runs clean)) (c.is_autocommit.ensures.settled (search rules))
    (λ clean has. create_keeps old new c.execute.result has (c.execute.ensures.runs clean))

pub returns-clause-left : goal.returns-clause-left
returns-clause-left g c =
    let old = state g.S.Store c.args.conn.now in
    let new = state g.S.Store c.execute.new.self in
    refused_so old new c.execute.result (outside_of _ _ c.is_autocommit.ensures.value (search rules))
    c.execute.ensures.survives.clean
    (c.is_autocommit.ensures.settled (search rules))
    (λ clean. create_left old new c.execute.result (c.execute.ensures.runs clean))

pub returns-clause-stops : goal.returns-clause-stops
returns-clause-stops g c clean db left = elim (c.execute.ensures.survives.crash clean db left) [
  | inl before ↦ inl before
  | inr made ↦ inr (may_make (state g.S.Store c.args.conn.now) db made)
]
