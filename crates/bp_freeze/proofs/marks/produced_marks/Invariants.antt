use Rattle.std.proofs.Common.{◌≡◌, ◌≤◌, ◌+◌, ◌||◌, ℕ, length}
use Rattle.std.specs.Prelude.{vec_len}
use Rattle.bp_freeze.specs.Marks.{is_marked}
use Rattle.bp_freeze.specs.Seeing.{is_produced}
use Rattle.bp_freeze.proofs.marks.produced_marks.Given as goal

-- what is marked, and what is left to be marked
abbrev pub invariant-loop-first : goal.invariant-loop-first
invariant-loop-first l = record {
  many : vec_len l.marks ≡ length l.tables.matter.docs + 1;
  tell : (n : ℕ) → n ≤ length l.tables.matter.docs → (is_marked l.marks.items n || is_produced l.rest n) ≡ is_produced l.tables.matter.productions n;
}

abbrev pub decreases-loop-first : goal.decreases-loop-first
decreases-loop-first l = length l.rest
