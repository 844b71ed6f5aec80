-- What holds of lists of rows of several kinds.
use Rattle.std.specs.Prelude.{Bool, List, [], nat_le, true, ℕ, ◌&&◌, ◌+◌, ◌==◌, ◌∷◌}

-- numbered from n on without a gap
abbrev pub is_numbered : {T : Type 0} → (T → ℕ) → ℕ → List T → Bool
is_numbered key n [] = true
is_numbered key n (row ∷ rows) = (key row == n) && is_numbered key (n + 1) rows

-- a number of one of so many rows
abbrev pub names : ℕ → ℕ → Bool
names count n = nat_le 1 n && nat_le n count
