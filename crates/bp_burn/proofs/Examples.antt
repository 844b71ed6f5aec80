-- Worked examples of the definitions in specs/, each run by the check.
use Rattle.std.proofs.Common.{◌≡◌, ◌<◌, ℕ, zero, suc, Bool, true, false, List, [], ◌∷◌, ◌++◌, map, replicate, refl, arith}
use Rattle.std.specs.Prelude.{codes, length, not, slice_index_or}
use Rattle.std.specs.List.{range_with_len}
use Rattle.bp_codes.specs.Bits.{bits_of}
use Rattle.bp_codes.specs.CodeLists.{mode_codes}
use Rattle.bp_codes.specs.Glyphs.{glyph_rows}
use Rattle.bp_codes.specs.declared.span.Fill.TheVariants.{High}
use Rattle.bp_core.specs.declared.rectangle.Rect.{Rect}
use Rattle.bp_rows.specs.declared.resolution.Unit.TheVariants.{Inch}
use Rattle.bp_rows.specs.Image.{FitsRes, Image, IsPage}
use Rattle.bp_core.specs.declared.review.Basis.{Basis}
use Rattle.bp_core.specs.declared.review.Basis.TheVariants.{Ac, Pi}
use Rattle.bp_core.specs.declared.stamps.Ink.{Ink}
use Rattle.bp_core.specs.declared.stamps.Ink.TheVariants.{Black, Lettered}
use Rattle.bp_core.specs.declared.stamps.Stamp.{Stamp}
use Rattle.bp_burn.specs.Band.{band_texts, produced_of, slip_text}
use Rattle.bp_burn.specs.Covered.{covered_pixel}
use Rattle.bp_burn.specs.Drawn.{columns_of, has_glyphs, is_drawn}
use Rattle.bp_burn.specs.Ink.{in_row, inked}
use Rattle.bp_burn.specs.RowsOut.{RowsOut, HasBits, IsOneRow, IsOutRoom, above_out, last_out}
use Rattle.bp_burn.specs.Strips.{slip_text_rows, touches_above, touches_row, white_rows}
use Rattle.bp_burn.specs.declared.band.TheConstants.{BAND_ROWS, MARGIN, TEXT_TOP}
use Rattle.bp_burn.specs.declared.drawing.TheConstants.{COLUMNS, PITCH, SCALE}
use Rattle.bp_burn.specs.declared.letters.TheConstants.{LETTERED_HEIGHT, LETTERED_WIDTH, LETTERS_IN, TEXT_ROWS}
use Rattle.bp_burn.specs.declared.paper.TheConstants.{SLIP_DOTS}
use Rattle.bp_burn.specs.declared.slips.TheConstants.{SLIP_HEIGHT, SLIP_LEFT, SLIP_TOP, SLIP_WIDTH}

-- runs of pixels, the first of them of this colour
abbrev runs : Bool → List ℕ → List Bool
runs colour [] = []
runs colour (n ∷ ns) = replicate n colour ++ runs (not colour) ns

-- a label below a page of 200 by 10: its first row of pixels is row 15
label_row : map (band_texts 200 10 (codes "AB-0001") [] 15) (range_with_len 0 200) ≡ runs false (64 ∷ 9 ∷ 6 ∷ 12 ∷ 27 ∷ 9 ∷ 9 ∷ 9 ∷ 9 ∷ 9 ∷ 12 ∷ 3 ∷ 22 ∷ [])
unfolding glyph_rows
label_row = refl

-- the row above it
row_above : map (band_texts 200 10 (codes "AB-0001") [] 14) (range_with_len 0 200) ≡ replicate 200 false
unfolding glyph_rows
row_above = refl

-- the middle row of the letter I, with a column on both sides
letter_row : map (is_drawn (codes "I") 0 1 0 9) (range_with_len 0 17) ≡ runs false (7 ∷ 3 ∷ 7 ∷ [])
unfolding glyph_rows
letter_row = refl

-- the same seven columns further left: the page's first column is the seventh of the letter
cut_row : map (is_drawn (codes "I") 0 1 7 9) (range_with_len 0 17) ≡ runs false (0 ∷ 3 ∷ 14 ∷ [])
unfolding glyph_rows
cut_row = refl

-- a page of one row, white in both columns
abbrev two_columns : Image
two_columns = record {
  width = 2;
  height = 1;
  xres = record { num = 200; den = 1 };
  yres = record { num = 200; den = 1 };
  unit = Inch;
  rows = (false ∷ false ∷ []) ∷ [];
}

-- columns 1 to 3 of rows 0 to 4, of which one column of one row lies in the page
abbrev past_the_edges : Rect
past_the_edges = record { left = 1; top = 0; width = 3; height = 5 }

inked_row : inked two_columns (in_row 0 (past_the_edges ∷ [])) ≡ record two_columns { rows = (false ∷ true ∷ []) ∷ [] }
inked_row = refl

other_row : inked two_columns (in_row 1 (past_the_edges ∷ [])) ≡ two_columns
other_row = refl

-- a stamp of a box at this left and this top, so wide and so high
abbrev stamp : Basis → ℕ → ℕ → ℕ → ℕ → Stamp
stamp ground left top width height =
    record { rect = record { left = left; top = top; width = width; height = height }; basis = ground }

-- ---- rows that a stamp touches

-- a box of rows 3 and 4
abbrev rows_three_and_four : List Stamp
rows_three_and_four = stamp Ac 0 3 5 2 ∷ []

touched : map (touches_row rows_three_and_four) (range_with_len 2 4) ≡ false ∷ true ∷ true ∷ false ∷ []
touched = refl

-- the rows below them; above row 0 there is none
touched_above : map (touches_above rows_three_and_four) (range_with_len 3 4) ≡ false ∷ true ∷ true ∷ false ∷ []
touched_above = refl

none_above_the_first : touches_above (stamp Ac 0 0 5 1 ∷ []) 0 ≡ false
none_above_the_first = refl

-- the box is black in the page, and white in the band, which has no texts here
produced_page : produced_of Black two_columns (record { rect = past_the_edges; basis = Ac } ∷ []) [] [] ≡ record two_columns { height = 33; rows = (false ∷ true ∷ []) ∷ replicate 32 (false ∷ false ∷ []) }
unfolding glyph_rows
produced_page = refl

seven_characters : columns_of (codes "AB-0001") ≡ 123
seven_characters = refl

no_characters : columns_of [] ≡ 0
no_characters = refl

capitals : has_glyphs (codes "AB-0001 ._") ≡ true
unfolding glyph_rows
capitals = refl

small_letter : has_glyphs (codes "Ab") ≡ false
unfolding glyph_rows
small_letter = refl

withheld : slip_text Ac ≡ codes "DOCUMENT WITHHELD - AC"
withheld = refl

-- the rows of a sheet's text, and its first row: the D stands from column 200 on, the O after it from 218 on
text_is_high : length (slip_text_rows Ac) ≡ 21
text_is_high = refl

text_begins : map (λ c. slice_index_or (slice_index_or (slip_text_rows Ac) 0 []) c true) (range_with_len 198 24) ≡ runs false (2 ∷ 12 ∷ 9 ∷ 1 ∷ [])
unfolding glyph_rows
text_begins = refl

-- white rows
whites : white_rows 3 2 ≡ (false ∷ false ∷ false ∷ []) ∷ (false ∷ false ∷ false ∷ []) ∷ []
whites = refl

-- ---- boxes covered on a white page of 64 by 40: its row 7, the first of the letters

abbrev row_seven : Ink → List Stamp → List Bool
row_seven ink stamps = map (λ c. covered_pixel ink stamps 7 c false) (range_with_len 0 64)

-- A and C in white, which begin at column 7 and have their first row's pixels three columns further
large_box : row_seven Lettered (stamp Ac 4 4 39 27 ∷ []) ≡ runs false (4 ∷ 6 ∷ 9 ∷ 9 ∷ 9 ∷ 6 ∷ 21 ∷ [])
unfolding glyph_rows
large_box = refl

-- a box that is too narrow, one that is too low, and a large one all black
narrow_box : row_seven Lettered (stamp Ac 4 4 38 27 ∷ []) ≡ runs false (4 ∷ 38 ∷ 22 ∷ [])
unfolding glyph_rows
narrow_box = refl

low_box : row_seven Lettered (stamp Ac 4 4 39 26 ∷ []) ≡ runs false (4 ∷ 39 ∷ 21 ∷ [])
unfolding glyph_rows
low_box = refl

black_box : row_seven Black (stamp Ac 4 4 39 27 ∷ []) ≡ runs false (4 ∷ 39 ∷ 21 ∷ [])
black_box = refl

-- a small box over the letters, and under them
box_over : row_seven Lettered (stamp Ac 4 4 39 27 ∷ stamp Pi 10 7 5 5 ∷ []) ≡ runs false (4 ∷ 11 ∷ 4 ∷ 9 ∷ 9 ∷ 6 ∷ 21 ∷ [])
unfolding glyph_rows
box_over = refl

box_under : row_seven Lettered (stamp Pi 10 7 5 5 ∷ stamp Ac 4 4 39 27 ∷ []) ≡ runs false (4 ∷ 6 ∷ 9 ∷ 9 ∷ 9 ∷ 6 ∷ 21 ∷ [])
unfolding glyph_rows
box_under = refl

-- the row above the letters, and the one below them
above_letters : map (λ c. covered_pixel Lettered (stamp Ac 4 4 39 27 ∷ []) 6 c false) (range_with_len 0 64) ≡ runs false (4 ∷ 39 ∷ 21 ∷ [])
unfolding glyph_rows
above_letters = refl

below_letters : map (λ c. covered_pixel Lettered (stamp Ac 4 4 39 27 ∷ []) 28 c false) (range_with_len 0 64) ≡ runs false (4 ∷ 39 ∷ 21 ∷ [])
unfolding glyph_rows
below_letters = refl

-- what was black stays black where no box is
black_beside : map (λ c. covered_pixel Lettered (stamp Ac 4 4 39 27 ∷ []) 7 c true) (range_with_len 0 12) ≡ runs true (10 ∷ 2 ∷ [])
unfolding glyph_rows
black_beside = refl

-- ---- rows on their way out

across : (r : ℕ) → r < 1 → length (slice_index_or ((false ∷ false ∷ []) ∷ []) r []) ≡ 2
across zero low = refl
across (suc r) low = omega (arith, low)

two_hundred : FitsRes (record { num = 200; den = 1 })
two_hundred = record { num = omega arith; den = omega arith }

is_page : IsPage two_columns
is_page = record { sides = refl; xres = two_hundred; yres = two_hundred; grid = record { down = refl; across = across } }

-- the strip of the page of two columns: V0 for its row, and the end of the page
abbrev two_bits : List Bool
two_bits = bits_of High (0x80 ∷ 0x08 ∷ 0x00 ∷ 0x80 ∷ [])

has_bits : HasBits 2 1 two_bits two_columns
unfolding mode_codes
has_bits = record { page = is_page; wide = refl; high = refl; codes = refl }

-- its row, read and covered by the box past the edges
abbrev row_out : RowsOut
row_out = record {
  bits = two_bits;
  width = 2;
  height = 1;
  ink = Black;
  stamps = stamp Ac 1 0 3 5 ∷ [];
  row = 1;
}

black_at_the_edge : last_out row_out two_columns ≡ false ∷ true ∷ []
black_at_the_edge = refl

white_above : above_out row_out two_columns ≡ false ∷ false ∷ []
white_above = refl

one_row : IsOneRow 2 (false ∷ true ∷ []) (record two_columns { rows = (false ∷ true ∷ []) ∷ [] })
one_row = record { wide = refl; high = refl; row = refl }

white_room : IsOutRoom 2 two_columns (2 ∷ [])
white_room = record { wide = refl; high = refl; blank = refl }

-- ---- the numbers that the definitions cite, in pixels

band_is : (BAND_ROWS ≡ 32) × (TEXT_TOP ≡ 5) × (MARGIN ≡ 16)
band_is = (refl, refl, refl)

drawing_is : (COLUMNS ≡ 5) × (SCALE ≡ 3) × (PITCH ≡ 18)
drawing_is = (refl, refl, refl)

letters_are : (LETTERED_WIDTH ≡ 39) × (LETTERED_HEIGHT ≡ 27) × (LETTERS_IN ≡ 3) × (TEXT_ROWS ≡ 21)
letters_are = (refl, refl, refl, refl)

slip_is : (SLIP_WIDTH ≡ 1700) × (SLIP_HEIGHT ≡ 2200) × (SLIP_DOTS ≡ 200) × (SLIP_TOP ≡ 1000) × (SLIP_LEFT ≡ 200)
slip_is = (refl, refl, refl, refl, refl)
