-- Modes read near b1, out of a word.
use Rattle.std.specs.Prelude.{ℕ, ◌≤◌, ◌≡◌, Bool, List, length, take, slice_index_or, Ok, nat_eq, if◌then◌else◌}
use Rattle.bp_codes.specs.Bits.{number_of_bits}
use Rattle.bp_codes.specs.CodeLists.{mode_codes}
use Rattle.bp_codes.specs.NextCode.{next_row}
use Rattle.bp_t6.specs.declared.near_reader.Near.{Near}
use Rattle.bp_t6.specs.Modes.{Mode, Pass, Vertical, code, vertical_rows}

-- a number of 64 binary digits, of which so many of the first are the first of these bits
-- by ITU-T T.6, table 1
pub record Holds (word count : ℕ) (bits : List Bool) : Type 0 where
  pub digits : List Bool
  pub whole : length digits ≡ 64
  pub number : number_of_bits digits ≡ word
  pub short : count ≤ 64
  pub long : count ≤ length bits
  pub same : take count digits ≡ take count bits

-- the mode that a shift stands for: vertical up to 6, and then pass
-- by ITU-T T.6, table 1
abbrev pub near_mode : ℕ → Mode
near_mode shift = if nat_eq shift 7 then Pass else Vertical shift

-- the bits begin with the code of that mode, of that length; the row of pass is 0
-- by ITU-T T.6, table 1
pub record BeginsNear (bits : List Bool) (near : Near) : Type 0 where
  pub small : near.shift ≤ 7
  pub short : near.len ≤ 7
  pub row : next_row mode_codes bits ≡ Ok (slice_index_or vertical_rows near.shift 0)
  pub long : near.len ≡ length (code mode_codes (slice_index_or vertical_rows near.shift 0))
