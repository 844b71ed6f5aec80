use Rattle.std.proofs.Common.{◌≡◌, ◌+◌, length}
use Rattle.bp_rules.specs.Limits.{pixels_in}
use Rattle.bp_rules.proofs.limits.pixels_in.Given as goal

abbrev pub invariant-loop-doc : goal.invariant-loop-doc
invariant-loop-doc l = pixels_in l.docs ≡ l.sum + pixels_in l.rest

abbrev pub decreases-loop-doc : goal.decreases-loop-doc
decreases-loop-doc l = length l.rest
