-- Packed rows of which the unused bits were cleared in part.
use Rattle.std.specs.Prelude.{ℕ, ◌*◌, ◌≡◌, ◌<◌, false, ◌&&◌, nat_le, nat_lt, List, length, if◌then◌else◌}
use Rattle.bp_rows.specs.Bits.{row_bytes, black_at, place}

-- the bits past the width of the first so many rows are 0, and the others as they were
pub record IsCleared (width rows : ℕ) (old new : List ℕ) : Type 0 where
  pub long : length new ≡ length old
  pub bits : (r c : ℕ) →
      c < 8 * row_bytes width →
      black_at new (place width r c)
      ≡ (if nat_lt r rows && nat_le width c then false else black_at old (place width r c))
