-- Carry a count that rises by one to the fact that it rose.
use Rattle.std.proofs.Common.{ℕ, ◌-◌, ◌^◌, ◌<◌, arith}
use Rattle.bp_core.specs.Counts.{Rose, risen}

-- one more is a rise
pub Rose-risen : (count : ℕ) → Rose count (risen count)
Rose-risen count = omega arith

-- below the end a count that stays hasn't risen
pub not_Rose-same : (count : ℕ) → count < 2 ^ 64 - 1 → ¬ (Rose count count)
not_Rose-same count below rose = omega arith
