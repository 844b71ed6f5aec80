-- The codes as a tree of bits, walked from its root: what stands at the front of each list of bits.
use Rattle.std.proofs.Common.{ℕ, zero, suc, ◌≡◌, Bool, true, false, ◌||◌, List, [], ◌∷◌, ◌++◌, if◌then◌else◌, Option, Some, None, Result, refl}
use Rattle.std.specs.List.{enumerate_from}
use Rattle.bp_codes.specs.declared.code.NoCode.{NoCode}
use Rattle.bp_codes.specs.declared.code.NoCode.TheVariants.{Ends, Strange}
use Rattle.bp_codes.specs.declared.white_index.TheConstants.{WHITE_INDEX}
use Rattle.bp_codes.specs.declared.black_index.TheConstants.{BLACK_INDEX}
use Rattle.bp_codes.specs.declared.mode_index.TheConstants.{MODE_INDEX}
use Rattle.bp_codes.specs.NextCode.{same_bit, begins_code, is_cut, row_or}
use Rattle.bp_codes.specs.Index.{entry_number}
use Rattle.bp_codes.specs.CodeLists.{white_codes, black_codes, mode_codes}

-- a row, and what is left of its code below the present place
abbrev pub Branch : Type 0
Branch = ℕ × List Bool

-- a branch after one bit more: gone where its code has another bit there
abbrev pub narrowed : Bool → ℕ → List Bool → List Branch → List Branch
narrowed b row [] rest = (row, []) ∷ rest
narrowed b row (x ∷ code) rest = if same_bit x b then (row, code) ∷ rest else rest

abbrev pub narrow : Bool → List Branch → List Branch
narrow b [] = []
narrow b (c ∷ branches) = narrowed b c.0 c.1 (narrow b branches)

abbrev pub row_among : List Branch → List Bool → Option ℕ
row_among [] bits = None
row_among (c ∷ branches) bits = if begins_code c.1 bits then Some c.0 else row_among branches bits

abbrev pub cut_among : List Branch → List Bool → Bool
cut_among [] bits = false
cut_among (c ∷ branches) bits = is_cut c.1 bits || cut_among branches bits

abbrev pub front : List Branch → List Bool → Result ℕ NoCode
front branches bits = row_or (row_among branches bits) (if cut_among branches bits then Ends else Strange)

-- what stands at the front of each list of n bits, in the order of the numbers that they are
abbrev pub level : List (List Bool) → ℕ → List Branch → List ℕ
level codes zero branches = entry_number codes (front branches []) ∷ []
level codes (suc n) branches = level codes n (narrow false branches) ++ level codes n (narrow true branches)

abbrev pub levels : List (List Bool) → ℕ → List Branch → List ℕ
levels codes zero branches = entry_number codes (front branches []) ∷ []
levels codes (suc n) branches = levels codes n branches ++ level codes (suc n) branches

pub modes_written : MODE_INDEX ≡ 255 ∷ levels mode_codes 7 (enumerate_from 0 mode_codes)
unfolding mode_codes
modes_written = refl

pub white_written : WHITE_INDEX ≡ 255 ∷ levels white_codes 12 (enumerate_from 0 white_codes)
unfolding white_codes
white_written = refl

pub black_written : BLACK_INDEX ≡ 255 ∷ levels black_codes 13 (enumerate_from 0 black_codes)
unfolding black_codes
black_written = refl
