-- The laws of the code tables.
use Rattle.std.specs.Prelude.{ℕ, ◌<◌, ◌≡◌, Bool, true, List, [], ◌++◌, length, drop, map, slice_get, slice_index_or, Some, Ok, Err}
use Rattle.std.specs.List.{list_any}
use Rattle.bp_codes.specs.declared.code.Code.{Code}
use Rattle.bp_codes.specs.declared.code.NoCode.TheVariants.{Ends}
use Rattle.bp_codes.specs.Bits.{code_bits, code_of_bits}
use Rattle.bp_codes.specs.NextCode.{begins_code, is_cut, next_row}

-- no code is a prefix of another
abbrev pub IsPrefixFree : List (List Bool) → Type 0
IsPrefixFree codes =
    (i j : ℕ)
    → i < length codes
    → j < length codes
    → begins_code (slice_index_or codes i []) (slice_index_or codes j []) ≡ true
    → i ≡ j

-- at the place where the code of a row was written stands that row, whatever bits come before and after
abbrev pub ReadsBack : List (List Bool) → Type 0
ReadsBack codes =
    (row : ℕ) (code : Code) (before after : List Bool)
    → slice_get (map code_of_bits codes) row ≡ Some code
    → next_row codes (drop (length before) (before ++ (code_bits code ++ after))) ≡ Ok row

-- where the bits are a proper prefix of some code, none begins them
abbrev pub CutMeansEnds : List (List Bool) → Type 0
CutMeansEnds codes =
    (bits : List Bool)
    → list_any (λ code. is_cut code bits) codes ≡ true
    → next_row codes bits ≡ Err Ends
