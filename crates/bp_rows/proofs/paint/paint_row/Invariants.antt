use Rattle.std.proofs.Common.{ℕ, ◌≡◌, ◌+◌, ◌-◌, ◌*◌, ◌/◌, ◌<◌, ◌≤◌, length}
use Rattle.bp_rows.specs.Bits.{AreBytes}
use Rattle.bp_rows.specs.Changes.{place_at}
use Rattle.bp_rows.proofs.PaintLemmas.{PaintedTo}
use Rattle.bp_rows.proofs.paint.paint_row.Given as goal

abbrev pub invariant-loop-word : goal.invariant-loop-word
invariant-loop-word l = record {
  below : l.word ≤ l.width / 64 + 1;
  long : length l.row ≡ 8 * (l.width / 64 + 1);
  bytes : AreBytes l.row;
  painted : PaintedTo l.places l.width l.row (64 * l.word);
  behind : (j : ℕ) → j + 1 ≡ l.next → place_at l.places l.width j < 64 * l.word;
  ahead : 64 * l.word ≤ l.width → 64 * l.word ≤ place_at l.places l.width l.next;
}

abbrev pub decreases-loop-word : goal.decreases-loop-word
decreases-loop-word l = l.width / 64 + 1 - l.word
