use Rattle.std.proofs.Common.{◌≡◌, length}
use Rattle.bp_matter.specs.ValidPrefixes.{after_items}
use Rattle.bp_matter.proofs.checking.reaching.after_items.Given as goal

abbrev pub invariant-loop-first : goal.invariant-loop-first
invariant-loop-first l = after_items l.number l.items ≡ after_items l.next l.rest

abbrev pub decreases-loop-first : goal.decreases-loop-first
decreases-loop-first l = length l.rest
