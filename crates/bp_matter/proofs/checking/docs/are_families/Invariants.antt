use Rattle.std.proofs.Common.{◌≡◌, length}
use Rattle.bp_matter.specs.ValidDocs.{are_families}
use Rattle.bp_matter.proofs.checking.docs.are_families.Given as goal

abbrev pub invariant-loop-first : goal.invariant-loop-first
invariant-loop-first l = are_families 1 l.docs ≡ are_families l.before l.rest

abbrev pub decreases-loop-first : goal.decreases-loop-first
decreases-loop-first l = length l.rest
