-- Texts drawn in glyphs. A bit of a glyph is three by three pixels, and a character begins 18
-- columns after the one before it.
use Rattle.std.specs.Prelude.{ℕ, ◌+◌, ◌-◌, ◌*◌, ◌/◌, ◌%◌, ◌&&◌, Bool, List, [], length, nat_le, nat_lt, slice_index_or, unwrap_or, is_some}
use Rattle.std.specs.List.{list_all}
use Rattle.bp_core.specs.Characters.{space}
use Rattle.bp_codes.specs.Bits.{bit}
use Rattle.bp_codes.specs.Glyphs.{glyph_rows, rows_at}
use Rattle.bp_burn.specs.declared.drawing.TheConstants.{COLUMNS, SCALE, PITCH}

-- the character has a glyph, and each character of a text has one
abbrev pub has_glyph : ℕ → Bool
has_glyph c = is_some (rows_at glyph_rows c)

-- each character of a text has a glyph
abbrev pub has_glyphs : List ℕ → Bool
has_glyphs text = list_all has_glyph text

-- the bit in a column of a glyph's row, the first one the highest of five
abbrev pub row_bit : ℕ → ℕ → Bool
row_bit row k = nat_lt k COLUMNS && bit row (COLUMNS - 1 - k)

-- the bit in a row and a column of a glyph
abbrev pub glyph_bit : List ℕ → ℕ → ℕ → Bool
glyph_bit rows g k = row_bit (slice_index_or rows g 0) k

-- the rows of a character's glyph; a character without one has none
abbrev pub glyph_lines : ℕ → List ℕ
glyph_lines c = unwrap_or (rows_at glyph_rows c) []

-- the pixel in a row and a column of a text, counted from its upper left corner
abbrev pub text_pixel : List ℕ → ℕ → ℕ → Bool
text_pixel text v u =
    glyph_bit (glyph_lines (slice_index_or text (u / PITCH) space)) (v / SCALE) (u % PITCH / SCALE)

-- the pixel of a page that a text blackens, whose upper left corner is in the row top and the
-- column left - hidden, which may lie left of the page
abbrev pub is_drawn : List ℕ → ℕ → ℕ → ℕ → ℕ → ℕ → Bool
is_drawn text top left hidden r c =
    nat_le top r
    && (nat_le left (c + hidden) && text_pixel text (r - top) (c + hidden - left))

-- the columns from the first pixel of a text to its last
abbrev pub columns_of : List ℕ → ℕ
columns_of text = PITCH * length text - SCALE
