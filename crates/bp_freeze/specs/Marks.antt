-- Marks: a truth value for each of so many numbers and for 0.
use Rattle.std.specs.Prelude.{ℕ, ◌≡◌, ◌≤◌, ◌+◌, Bool, false, List, length, slice_index_or}

-- whether a number is marked; past the end none is
abbrev pub is_marked : List Bool → ℕ → Bool
is_marked marks n = slice_index_or marks n false

-- the marks of the numbers up to a last one tell this of each
pub record AreMarks (last : ℕ) (marks : List Bool) (test : ℕ → Bool) : Type 0 where
  pub many : length marks ≡ last + 1
  pub tell : (n : ℕ) → n ≤ last → is_marked marks n ≡ test n
