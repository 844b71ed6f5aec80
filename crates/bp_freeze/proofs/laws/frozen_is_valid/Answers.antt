use Rattle.bp_freeze.proofs.FrozenLemmas.{frozen-valid}
use Rattle.bp_freeze.proofs.laws.frozen_is_valid.Goals as goal

pub returns : goal.returns
returns c = frozen-valid
