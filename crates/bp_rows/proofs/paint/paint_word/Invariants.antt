use Rattle.std.proofs.Common.{ℕ, ◌≡◌, ◌+◌, ◌-◌, ◌<◌, ◌≤◌, length}
use Rattle.bp_rows.specs.Changes.{place_at}
use Rattle.bp_rows.proofs.PaintLemmas.{Turns}
use Rattle.bp_rows.proofs.paint.paint_word.Given as goal

abbrev pub invariant-loop-next : goal.invariant-loop-next
invariant-loop-next l = record {
  turns : Turns l.places l.width l.base l.next l.pixels;
  behind : (j : ℕ) → j + 1 ≡ l.next → place_at l.places l.width j < l.base + 64;
  ahead : l.base ≤ place_at l.places l.width l.next;
}

abbrev pub decreases-loop-next : goal.decreases-loop-next
decreases-loop-next l = length l.places - l.next
