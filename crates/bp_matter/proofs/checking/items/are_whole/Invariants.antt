use Rattle.std.proofs.Common.{◌≡◌, length}
use Rattle.bp_matter.specs.ValidItems.{are_whole}
use Rattle.bp_matter.proofs.checking.items.are_whole.Given as goal

abbrev pub invariant-loop-item : goal.invariant-loop-item
invariant-loop-item l = are_whole l.docs 0 1 l.items ≡ are_whole l.docs l.due l.low l.rest

abbrev pub decreases-loop-item : goal.decreases-loop-item
decreases-loop-item l = length l.rest
