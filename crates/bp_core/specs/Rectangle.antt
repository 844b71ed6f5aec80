-- Rectangles of pixels. Rows count down from the top of a page and columns from its left edge, from 0
-- (TIFF 6.0, section 8, Orientation 1).
use Rattle.std.specs.Prelude.{ℕ, ◌+◌, ◌<◌, ◌≤◌, Bool, nat_le, nat_lt, ◌&&◌, max, min}
use Rattle.bp_core.specs.declared.rectangle.Rect.{Rect}

-- the pixel in that row and column lies in the rectangle
-- by rows and columns as in TIFF 6.0, section 8, Orientation 1
pub record HasPixel (r : Rect) (row col : ℕ) : Type 0 where
  pub below_top : r.top ≤ row
  pub above_bottom : row < r.top + r.height
  pub from_left : r.left ≤ col
  pub to_right : col < r.left + r.width

-- the same as a test
-- by rows and columns as in TIFF 6.0, section 8, Orientation 1
abbrev pub has_pixel : Rect → ℕ → ℕ → Bool
has_pixel r row col =
    nat_le r.top row && nat_lt row (r.top + r.height)
    && nat_le r.left col && nat_lt col (r.left + r.width)

-- no pixel of the rectangle passes the right or the lower edge of a page of these sides
pub record LiesInside (r : Rect) (width height : ℕ) : Type 0 where
  pub across : r.left + r.width ≤ width
  pub down : r.top + r.height ≤ height

-- the same as a test
abbrev pub lies_inside : Rect → ℕ → ℕ → Bool
lies_inside r width height = nat_le (r.left + r.width) width && nat_le (r.top + r.height) height

-- some pixel lies in both rectangles
pub record Touches (r s : Rect) : Type 0 where
  pub row : ℕ
  pub col : ℕ
  pub in_one : HasPixel r row col
  pub in_other : HasPixel s row col

-- two spans, each from a place on and so long, have a place in common
abbrev pub spans_meet : ℕ → ℕ → ℕ → ℕ → Bool
spans_meet from long from' long' = nat_lt (max from from') (min (from + long) (from' + long'))

-- the same as a test: their columns meet, and their rows
abbrev pub touches : Rect → Rect → Bool
touches r s =
    spans_meet r.left r.width s.left s.width && spans_meet r.top r.height s.top s.height
