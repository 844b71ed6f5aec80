use Rattle.bp_check.specs.Check.{agrees}
use Rattle.bp_check.proofs.CalmLemmas.{agrees_calm, bad_after}
use Rattle.bp_check.proofs.check.check_planned.Goals as goal

pub returns-in_err-agree-clause-after : goal.returns-in_err-agree-clause-after
returns-in_err-agree-clause-after g c =
    let docs = c.deref.result.now in
    let lines = c.as_slice.result.now in
    bad_after {Y = Unit {0}} {V = Unit {0}} (λ _. tt) c.from_residual.result c.in_err-agree.field-0.0 (agrees docs lines) _
    (agrees_calm docs lines) c.from_residual.ensures.1 c.in_err-agree.ensures
