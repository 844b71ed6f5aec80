use Rattle.std.proofs.Common.{◌≡◌, ◌+◌, length}
use Rattle.bp_matter.specs.ValidPages.{pixels_of}
use Rattle.bp_rules.proofs.limits.pixels_of.Given as goal

abbrev pub invariant-loop-row : goal.invariant-loop-row
invariant-loop-row l = pixels_of l.pages ≡ l.sum + pixels_of l.rest

abbrev pub decreases-loop-row : goal.decreases-loop-row
decreases-loop-row l = length l.rest
