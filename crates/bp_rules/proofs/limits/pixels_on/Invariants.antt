use Rattle.std.proofs.Common.{◌≡◌, ◌+◌, length}
use Rattle.bp_rules.specs.Limits.{pixels_on}
use Rattle.bp_rules.proofs.limits.pixels_on.Given as goal

abbrev pub invariant-loop-page : goal.invariant-loop-page
invariant-loop-page l = pixels_on l.pages ≡ l.sum + pixels_on l.rest

abbrev pub decreases-loop-page : goal.decreases-loop-page
decreases-loop-page l = length l.rest
