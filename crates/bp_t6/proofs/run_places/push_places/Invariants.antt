use Rattle.std.proofs.Common.{get_or}
use Rattle.bp_t6.proofs.RunPlaceLemmas.{PlacesSo}
use Rattle.bp_t6.proofs.run_places.push_places.Given as goal

abbrev pub invariant-loop-run : goal.invariant-loop-run
invariant-loop-run l = PlacesSo (get_or l.runs 0 0) l.run-items l.places.items l.run-index l.at
