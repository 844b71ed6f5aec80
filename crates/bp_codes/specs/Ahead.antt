-- The bits that come next, held in a word.
use Rattle.std.specs.Prelude.{ℕ, ◌/◌, ◌%◌, ◌≤◌, ◌≡◌, nat_lt, if◌then◌else◌, Bool, List, [], length, take, slice_index_or, Option, Some, None, Ok, IsErr}
use Rattle.bp_codes.specs.declared.code.Found.{Found}
use Rattle.bp_codes.specs.declared.span.TheConstants.{AHEAD}
use Rattle.bp_codes.specs.Bits.{number_of_bits}
use Rattle.bp_codes.specs.NextCode.{next_row}

-- a number of 64 binary digits, of which the first 57 are the first 57 of these bits
pub record IsAhead (word : ℕ) (bits : List Bool) : Type 0 where
  pub digits : List Bool
  pub count : length digits ≡ 64
  pub number : number_of_bits digits ≡ word
  pub long : AHEAD ≤ length bits
  pub same : take AHEAD digits ≡ take AHEAD bits

-- the code that begins the bits was found, by its row and its length; or none begins them
abbrev pub FindsCode : List (List Bool) → List Bool → Option Found → Type 0
FindsCode codes bits (Some found) =
    (next_row codes bits ≡ Ok found.row) × (found.len ≡ length (slice_index_or codes found.row []))
FindsCode codes bits None = IsErr (next_row codes bits)

-- what an entry of an index says, where it is a code
abbrev pub found_code : ℕ → Option Found
found_code entry =
    if nat_lt entry 256 then None else Some (record { row = entry % 256; len = entry / 256 })
