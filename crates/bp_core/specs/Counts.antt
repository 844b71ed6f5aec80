-- Counts that never fall. A count is a u64, and stands still at the greatest one.
use Rattle.std.specs.Prelude.{ℕ, ◌+◌, ◌-◌, ◌^◌, ◌≤◌, min}

-- a count after one more
abbrev pub risen : ℕ → ℕ
risen count = min (count + 1) (2 ^ 64 - 1)

-- a count rose between two moments. At the greatest u64 this asks nothing
abbrev pub Rose : ℕ → ℕ → Type 0
Rose before now = risen before ≤ now
