-- How an index keeps the front of each short list of bits.
use Rattle.std.specs.Prelude.{ℕ, ◌+◌, ◌*◌, ◌^◌, ◌≤◌, ◌≡◌, Bool, List, [], length, slice_index, slice_index_or, Result, Ok, Err}
use Rattle.bp_codes.specs.declared.code.NoCode.{NoCode}
use Rattle.bp_codes.specs.declared.code.NoCode.TheVariants.{Ends, Strange}
use Rattle.bp_codes.specs.Bits.{number_of_bits}
use Rattle.bp_codes.specs.NextCode.{next_row}

-- the number under which an index keeps a row: the row, and 256 times the length of its code
abbrev pub row_entry : List (List Bool) → ℕ → ℕ
row_entry codes row = row + 256 * length (slice_index_or codes row [])

-- the number under which an index keeps what stands at the front of bits
abbrev pub entry_number : List (List Bool) → Result ℕ NoCode → ℕ
entry_number codes (Ok row) = row_entry codes row
entry_number codes (Err Ends) = 255
entry_number codes (Err Strange) = 254

-- where an index keeps the front of these bits: the number that they are with a 1 before them
abbrev pub index_place : List Bool → ℕ
index_place bits = 2 ^ length bits + number_of_bits bits

-- the index has the front of each list of at most so many bits
abbrev pub IsIndexOf : List (List Bool) → ℕ → List ℕ → Type 0
IsIndexOf codes longest index =
    (bits : List Bool)
    → length bits ≤ longest
    → slice_index index (index_place bits) ≡ entry_number codes (next_row codes bits)
