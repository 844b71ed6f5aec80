use Rattle.bp_freeze.proofs.KeptLemmas.{found_is_kept}
use Rattle.bp_freeze.proofs.laws.found_is_kept.Goals as goal

pub returns : goal.returns
returns c = found_is_kept
