use Rattle.bp_freeze.proofs.AlikeLemmas.{freeze-same}
use Rattle.bp_freeze.proofs.laws.same_freeze.Goals as goal

pub returns : goal.returns
returns c = freeze-same
