use Rattle.bp_rules.proofs.KeepingLemmas.{keeps-itself}
use Rattle.bp_rules.proofs.steps.step.Goals as goal

pub returns-in_err-change-clause-kept : goal.returns-in_err-change-clause-kept
returns-in_err-change-clause-kept g c = keeps-itself c.args.tables.now.matter
