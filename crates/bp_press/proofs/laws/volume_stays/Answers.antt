use Rattle.std.proofs.Common.{sym}
use Rattle.bp_press.proofs.GrowLemmas.{grown-agrees}
use Rattle.bp_press.proofs.SameLemmas.{volume-same}
use Rattle.bp_press.proofs.laws.volume_stays.Goals as goal

pub returns : goal.returns
returns c = λ f m n valid kept grows. sym (volume-same f m n (grown-agrees f m n valid kept grows))
