-- Bytes that a pass has gone through in part.
use Rattle.std.specs.Prelude.{ℕ, ◌≡◌, ◌-◌, ◌<◌, ◌≤◌, List, length, slice_index}
use Rattle.bp_codes.specs.declared.span.Fill.TheVariants.{High, Low}
use Rattle.bp_codes.specs.Bits.{byte_bits}

-- the bytes before a place stand to the old ones as One says, and the others are as they were
pub record IsPassed (One : ℕ → ℕ → Type 0) (at : ℕ) (old new : List ℕ) : Type 0 where
  pub long : length new ≡ length old
  pub done : (k : ℕ) → k < at → k < length old → One (slice_index old k) (slice_index new k)
  pub left : (k : ℕ) → at ≤ k → slice_index new k ≡ slice_index old k

-- a byte that has the bits of the old one in the other order
pub record IsTurned (old new : ℕ) : Type 0 where
  pub fits : old < 256
  pub bits : byte_bits High new ≡ byte_bits Low old

-- a byte that has each bit of the old one turned over
pub record IsInverted (old new : ℕ) : Type 0 where
  pub fits : old < 256
  pub bits : new ≡ 255 - old
