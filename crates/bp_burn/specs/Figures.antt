-- What the steps of drawing a text blacken. A column of the drawing stands `hidden` columns further
-- left on the page.
use Rattle.std.specs.Prelude.{ℕ, ◌+◌, ◌-◌, ◌/◌, ◌==◌, ◌&&◌, Bool, List, nat_le, nat_lt}
use Rattle.bp_burn.specs.Drawn.{glyph_bit, row_bit, text_pixel}
use Rattle.bp_burn.specs.declared.drawing.TheConstants.{SCALE}

-- a bit
abbrev pub bit_figure : ℕ → ℕ → ℕ → ℕ → ℕ → Bool
bit_figure top at hidden r c =
    (nat_le top r && nat_lt r (top + SCALE))
    && (nat_le at (c + hidden) && nat_lt (c + hidden) (at + SCALE))

-- a row of a glyph
abbrev pub row_figure : ℕ → ℕ → ℕ → ℕ → ℕ → ℕ → Bool
row_figure row top at hidden r c =
    (nat_le top r && nat_lt r (top + SCALE))
    && (nat_le at (c + hidden) && row_bit row ((c + hidden - at) / SCALE))

-- a glyph
abbrev pub glyph_figure : List ℕ → ℕ → ℕ → ℕ → ℕ → ℕ → Bool
glyph_figure rows top at hidden r c =
    nat_le top r
    && (nat_le at (c + hidden) && glyph_bit rows ((r - top) / SCALE) ((c + hidden - at) / SCALE))

-- row v of a text, in a row of the page from a column on
abbrev pub text_row : List ℕ → ℕ → ℕ → ℕ → ℕ → ℕ → Bool
text_row text v row left r c = (r == row) && (nat_le left c && text_pixel text v (c - left))
