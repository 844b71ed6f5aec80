use Rattle.bp_rules.proofs.RunningLemmas.{run-loads}
use Rattle.bp_rules.proofs.histories.run_law.Goals as goal

pub returns : goal.returns
returns c = run-loads
