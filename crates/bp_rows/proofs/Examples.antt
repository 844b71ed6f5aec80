-- Worked examples of the definitions in specs/, each run by the check.
use Rattle.std.proofs.Common.{ℕ, ◌≡◌, ◌≤◌, Bool, true, false, List, [], ◌∷◌, ◌++◌, replicate, get_or, refl, sym, subst, arith}
use Rattle.bp_core.specs.declared.rectangle.Rect.{Rect}
use Rattle.bp_rows.specs.declared.limits.TheConstants.{MAX_WIDTH, MAX_HEIGHT, MAX_PIXELS, MAX_IMPORT_HEIGHT, MAX_IMPORT_PIXELS}
use Rattle.bp_rows.specs.declared.resolution.Res.{Res}
use Rattle.bp_rows.specs.declared.resolution.Unit.TheVariants.{Inch}
use Rattle.bp_rows.specs.Limits.{sides_are_allowed, sides_are_imported}
use Rattle.bp_rows.specs.Image.{Image, pixel, with_pixel, with_row, white_image}
use Rattle.bp_rows.specs.Bits.{black_at, rows_in_bytes}
use Rattle.bp_rows.specs.Burned.{burned, row_part}
use Rattle.bp_rows.specs.Packed.{packed_rows}
use Rattle.bp_rows.specs.Changes.{changes_of}
use Rattle.bp_rows.specs.Runs.{painted_runs, IsRuns}
use Rattle.bp_rows.specs.Words.{pixels_in_bytes, ones_from, last_of}

-- ---- limits

widest : MAX_WIDTH ≡ 20000
widest = refl

highest : MAX_HEIGHT ≡ 20032
highest = refl

most_pixels : MAX_PIXELS ≡ 200640000
most_pixels = refl

highest_import : MAX_IMPORT_HEIGHT ≡ 20000
highest_import = refl

most_imported : MAX_IMPORT_PIXELS ≡ 200000000
most_imported = refl

-- ---- sides

largest : sides_are_allowed 20000 10032 ≡ true
largest = refl

too_many_pixels : sides_are_allowed 20000 10033 ≡ false
too_many_pixels = refl

with_band : sides_are_allowed 1 20032 ≡ true
with_band = refl

too_high : sides_are_allowed 1 20033 ≡ false
too_high = refl

too_wide : sides_are_allowed 20001 1 ≡ false
too_wide = refl

no_width : sides_are_allowed 0 1 ≡ false
no_width = refl

no_height : sides_are_allowed 1 0 ≡ false
no_height = refl

largest_import : sides_are_imported 20000 10000 ≡ true
largest_import = refl

too_high_to_import : sides_are_imported 1 20001 ≡ false
too_high_to_import = refl

too_wide_to_import : sides_are_imported 20001 1 ≡ false
too_wide_to_import = refl

too_many_to_import : sides_are_imported 20000 10001 ≡ false
too_many_to_import = refl

-- ---- pixels

abbrev two_hundred : Res
two_hundred = record { num = 200; den = 1 }

abbrev three_by_two : Image
three_by_two = white_image 3 2 two_hundred two_hundred Inch

one_pixel : (with_pixel three_by_two 1 2 true).rows ≡ (false ∷ false ∷ false ∷ []) ∷ (false ∷ false ∷ true ∷ []) ∷ []
one_pixel = refl

white_beside : pixel (with_pixel three_by_two 1 2 true) 1 1 ≡ false
white_beside = refl

-- ---- burning

-- columns 1 and 2 of row 0, and a box that reaches past the page
abbrev boxes : List Rect
boxes = row_part 0 1 3 ∷ record { left = 0; top = 1; width = 1; height = 9 } ∷ []

two_boxes : (burned three_by_two boxes).rows ≡ (false ∷ true ∷ true ∷ []) ∷ (true ∷ false ∷ false ∷ []) ∷ []
two_boxes = refl

-- what was black stays black
black_stays : (burned (with_pixel three_by_two 0 0 true) boxes).rows ≡ (true ∷ true ∷ true ∷ []) ∷ (true ∷ false ∷ false ∷ []) ∷ []
black_stays = refl

-- ---- packed rows

-- 9 pixels take two bytes, of which 7 bits are unused
nine_pixels : packed_rows ((true ∷ false ∷ false ∷ false ∷ false ∷ false ∷ false ∷ true ∷ true ∷ []) ∷ []) ≡ 0x81 ∷ 0x80 ∷ []
nine_pixels = refl

two_rows : packed_rows ((true ∷ true ∷ false ∷ []) ∷ (false ∷ false ∷ true ∷ []) ∷ []) ≡ 0xC0 ∷ 0x20 ∷ []
two_rows = refl

high_bit_first : black_at (0x01 ∷ 0x80 ∷ []) 8 ≡ true
high_bit_first = refl

rows_again : rows_in_bytes 3 2 (0xC0 ∷ 0x20 ∷ []) ≡ (true ∷ true ∷ false ∷ []) ∷ (false ∷ false ∷ true ∷ []) ∷ []
rows_again = refl

-- ---- changing elements and runs

-- columns 5 to 9 of twenty
abbrev five_to_nine : List Bool
five_to_nine = replicate 5 false ++ replicate 5 true ++ replicate 10 false

two_changes : changes_of five_to_nine ≡ 5 ∷ 10 ∷ []
two_changes = refl

-- the first pixel of a row is a changing element where it is black, and its end is none
all_black : changes_of (replicate 8 true) ≡ 0 ∷ []
all_black = refl

all_white : changes_of (replicate 8 false) ≡ []
all_white = refl

last_alone : changes_of (false ∷ false ∷ true ∷ []) ≡ 2 ∷ []
last_alone = refl

painted : painted_runs false (5 ∷ 5 ∷ 10 ∷ []) ≡ five_to_nine
painted = refl

-- a run of no pixels joins those beside it
painted_with_none : painted_runs false (2 ∷ 0 ∷ 3 ∷ 3 ∷ []) ≡ painted_runs false (5 ∷ 3 ∷ [])
painted_with_none = refl

-- the first run of a black row is empty
runs_of_black : IsRuns (0 ∷ 8 ∷ []) (replicate 8 true)
runs_of_black = record {
  paints = refl;
  some = omega arith;
  least = λ k after within. (let one : k ≡ 1 = omega arith in subst (λ (j : ℕ). 1 ≤ get_or (0 ∷ 8 ∷ []) j 0) (sym one) (omega arith));
}

one_row_set : (with_row three_by_two 1 (painted_runs false (1 ∷ 2 ∷ []))).rows ≡ (false ∷ false ∷ false ∷ []) ∷ (false ∷ true ∷ true ∷ []) ∷ []
one_row_set = refl

-- ---- words

byte_by_pixels : pixels_in_bytes (0x05 ∷ 0x80 ∷ []) ≡ replicate 5 false ++ true ∷ false ∷ true ∷ true ∷ replicate 7 false
byte_by_pixels = refl

ones_of_a_byte : ones_from 100 8 0x41 ≡ 101 ∷ 107 ∷ []
ones_of_a_byte = refl

last_of_none : last_of true [] ≡ true
last_of_none = refl
