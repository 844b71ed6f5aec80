use Rattle.bp_press.proofs.SameLemmas.{volume-same}
use Rattle.bp_press.proofs.laws.same_volume.Goals as goal

pub returns : goal.returns
returns c = volume-same
