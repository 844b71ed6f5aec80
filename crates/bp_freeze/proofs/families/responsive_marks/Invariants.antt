use Rattle.std.proofs.Common.{◌≡◌, ◌≤◌, ◌+◌, ◌-◌, ◌||◌, ℕ, length}
use Rattle.std.specs.Prelude.{vec_len}
use Rattle.bp_freeze.specs.Marks.{is_marked}
use Rattle.bp_freeze.specs.Seeing.{seen_from}
use Rattle.bp_freeze.specs.Selecting.{has_responsive}
use Rattle.bp_freeze.proofs.families.responsive_marks.Given as goal

-- what is marked, and what is left to be marked
abbrev pub invariant-loop-number : goal.invariant-loop-number
invariant-loop-number l = record {
  many : vec_len l.marks ≡ length l.tables.matter.docs + 1;
  tell : (n : ℕ) → n ≤ length l.tables.matter.docs
      → (is_marked l.marks.items n || has_responsive (seen_from l.tables.matter l.number (l.end - l.number)) n) ≡ has_responsive (seen_from l.tables.matter l.from (l.end - l.from)) n;
}
