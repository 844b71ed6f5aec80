use Rattle.bp_frozen.proofs.FrozenLemmas.{freezes-stand}
use Rattle.bp_frozen.proofs.laws.freezes_stand.Goals as goal

pub returns : goal.returns
returns c = freezes-stand c.same_volume.ensures c.same_product.ensures.frozen c.same_product.ensures.volume
