-- Places among bits that were put.
use Rattle.std.specs.Prelude.{◌+◌, ◌*◌, ◌≡◌, Bool, List, ◌++◌, length, drop}
use Rattle.bp_codes.specs.Bits.{low_bits}
use Rattle.bp_t6.specs.declared.mark.Mark.{Mark}

-- these bits stand before the place: whole bytes, and those that wait for more
pub record IsMarked (mark : Mark) (bits : List Bool) : Type 0 where
  pub long : length bits ≡ 8 * mark.bytes + mark.fill
  pub end : drop (8 * mark.bytes) bits ≡ low_bits mark.fill mark.held

-- what was put still stands, and something may stand behind it
pub record Continues (old new : List Bool) : Type 0 where
  pub more : List Bool
  pub joined : new ≡ old ++ more
