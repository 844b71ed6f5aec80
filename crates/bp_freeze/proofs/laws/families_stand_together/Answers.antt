use Rattle.bp_freeze.proofs.TogetherLemmas.{stands-ascending, stands-once, stands-whole}
use Rattle.bp_freeze.proofs.laws.families_stand_together.Goals as goal

pub returns : goal.returns
returns c = record { once = stands-once; whole = stands-whole; order = stands-ascending }
