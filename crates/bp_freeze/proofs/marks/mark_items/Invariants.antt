use Rattle.std.proofs.Common.{◌≡◌, ◌==◌, ◌<◌, ◌||◌, ℕ, length}
use Rattle.std.specs.List.{list_any}
use Rattle.std.specs.Prelude.{vec_len}
use Rattle.bp_freeze.specs.Marks.{is_marked}
use Rattle.bp_freeze.proofs.marks.mark_items.Given as goal

-- what is marked, and what is left to be marked
abbrev pub invariant-loop-first : goal.invariant-loop-first
invariant-loop-first l = record {
  many : vec_len l.marks ≡ vec_len l.initial.marks;
  tell : (n : ℕ) → n < vec_len l.initial.marks
      → (is_marked l.marks.items n || list_any (λ item. item.parent.0 == n) l.rest) ≡ (is_marked l.initial.marks.items n || list_any (λ item. item.parent.0 == n) l.items);
}

abbrev pub decreases-loop-first : goal.decreases-loop-first
decreases-loop-first l = length l.rest
