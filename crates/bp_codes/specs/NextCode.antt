-- The code that begins a list of bits.
use Rattle.std.specs.Prelude.{ℕ, Bool, true, false, not, ◌&&◌, List, [], ◌∷◌, Option, Some, None, Result, Ok, Err, if◌then◌else◌}
use Rattle.std.specs.List.{position_from, list_any}
use Rattle.bp_codes.specs.declared.code.NoCode.{NoCode}
use Rattle.bp_codes.specs.declared.code.NoCode.TheVariants.{Ends, Strange}

-- the same bit
abbrev pub same_bit : Bool → Bool → Bool
same_bit true b = b
same_bit false b = not b

-- the bits begin with this code
abbrev pub begins_code : List Bool → List Bool → Bool
begins_code [] bits = true
begins_code (c ∷ code) [] = false
begins_code (c ∷ code) (b ∷ bits) = same_bit c b && begins_code code bits

-- the bits are a proper prefix of this code, the empty one too
abbrev pub is_cut : List Bool → List Bool → Bool
is_cut [] bits = false
is_cut (c ∷ code) [] = true
is_cut (c ∷ code) (b ∷ bits) = same_bit c b && is_cut code bits

-- the row whose code begins the bits, if there is one
abbrev pub row_at : List (List Bool) → List Bool → Option ℕ
row_at codes bits = position_from (λ code. begins_code code bits) 0 codes

-- what stands where no code begins: Ends where the bits are a proper prefix of some code, else Strange
abbrev pub no_code : List (List Bool) → List Bool → NoCode
no_code codes bits = if list_any (λ code. is_cut code bits) codes then Ends else Strange

-- the row that was found, or why there is none
abbrev pub row_or : Option ℕ → NoCode → Result ℕ NoCode
row_or (Some row) none = Ok row
row_or None none = Err none

-- what stands at the front of the bits: the row whose code begins them, or why there is none
abbrev pub next_row : List (List Bool) → List Bool → Result ℕ NoCode
next_row codes bits = row_or (row_at codes bits) (no_code codes bits)
