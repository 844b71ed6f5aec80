use Rattle.std.proofs.Common.{◌≡◌, ◌+◌, length}
use Rattle.bp_matter.specs.Batches.{pages_in}
use Rattle.bp_rules.proofs.limits.pages_in.Given as goal

abbrev pub invariant-loop-doc : goal.invariant-loop-doc
invariant-loop-doc l = pages_in l.docs ≡ l.count + pages_in l.rest

abbrev pub decreases-loop-doc : goal.decreases-loop-doc
decreases-loop-doc l = length l.rest
