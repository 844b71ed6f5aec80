use Rattle.std.proofs.Common.{[], rules}
use Rattle.sqlite.specs.Held.{state}
use Rattle.bp_keep_sql.proofs.TextLemmas.{find_text}
use Rattle.bp_keep_sql.proofs.LeaveLemmas.{left_so, outside_of}
use Rattle.bp_keep_sql.proofs.StatementLemmas.{not_run_left, not_found}
use Rattle.bp_keep_sql.proofs.statements.find_table.Goals as goal

pub returns-in_err-prepare-clause-leaves : goal.returns-in_err-prepare-clause-leaves
returns-in_err-prepare-clause-leaves g c =
    let old = state g.S.Store c.args.conn.now in
    let new = state g.S.Store c.prepare.new.self in
    left_so old new (outside_of _ _ c.is_autocommit.ensures.value (search rules))
    c.prepare.ensures.survives.clean (c.is_autocommit.ensures.settled (search rules))
    (λ clean. not_run_left find_text [] old new _ (c.in_err-prepare.ensures.err clean []))

pub returns-clause-lacking : goal.returns-clause-lacking
returns-clause-lacking g c clean has =
    absurd (not_found c.in_ok-prepare.field-0 c.args.conn.now.schema
    (c.in_ok-prepare.ensures.shape clean) has)
