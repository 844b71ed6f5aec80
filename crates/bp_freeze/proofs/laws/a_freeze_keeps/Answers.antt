use Rattle.bp_freeze.proofs.KeptLemmas.{asked-kept, new-kept, others-kept}
use Rattle.bp_freeze.proofs.laws.a_freeze_keeps.Goals as goal

pub returns : goal.returns
returns c = record { others = others-kept; its_own = new-kept; asked = asked-kept }
