use Rattle.std.proofs.Common.{◌≡◌, length}
use Rattle.bp_matter.specs.ValidPages.{are_paged}
use Rattle.bp_matter.proofs.checking.pages.are_paged.Given as goal

abbrev pub invariant-loop-doc : goal.invariant-loop-doc
invariant-loop-doc g l = are_paged g.T.Keyed.key_of l.docs l.rows ≡ are_paged g.T.Keyed.key_of l.left l.rest

abbrev pub decreases-loop-doc : goal.decreases-loop-doc
decreases-loop-doc g l = length l.left
