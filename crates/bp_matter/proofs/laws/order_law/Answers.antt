use Rattle.bp_matter.proofs.OrderLemmas.{rows-ascend}
use Rattle.bp_matter.proofs.laws.order_law.Goals as goal

pub returns : goal.returns
returns c = λ m v. rows-ascend m v
