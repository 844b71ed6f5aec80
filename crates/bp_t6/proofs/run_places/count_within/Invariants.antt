use Rattle.bp_t6.proofs.ShownPlaceLemmas.{Ends}
use Rattle.bp_t6.proofs.run_places.count_within.Given as goal

abbrev pub invariant-loop-count : goal.invariant-loop-count
invariant-loop-count l = Ends l.places l.width l.count

abbrev pub decreases-loop-count : goal.decreases-loop-count
decreases-loop-count l = l.count
