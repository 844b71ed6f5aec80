-- Redaction boxes burned into a page.
use Rattle.std.specs.Prelude.{ℕ, ◌≡◌, ◌<◌, ◌-◌, Bool, false, List, ◌||◌}
use Rattle.std.specs.List.{list_any}
use Rattle.bp_core.specs.declared.rectangle.Rect.{Rect}
use Rattle.bp_core.specs.Rectangle.{has_pixel}
use Rattle.bp_rows.specs.Image.{Image, pixel, grid_of}

-- some rectangle has the pixel in that row and column
abbrev pub covers_pixel : List Rect → ℕ → ℕ → Bool
covers_pixel boxes row col = list_any (λ (box : Rect). has_pixel box row col) boxes

-- Burned: the page of the same sides, resolutions and unit whose pixel is black where some
-- rectangle has it, and is the page's pixel elsewhere.
abbrev pub burned : Image → List Rect → Image
burned p boxes =
    record p { rows = grid_of p.width p.height (λ r c. covers_pixel boxes r c || pixel p r c) }

-- the rectangle of the columns of one row from a first one up to a last one, which it has not
abbrev pub row_part : ℕ → ℕ → ℕ → Rect
row_part row from to = record { left = from; top = row; width = to - from; height = 1 }

-- two pages have the same sides, resolutions and unit, and the same pixels outside the rectangles
pub record AgreeOutside (boxes : List Rect) (p q : Image) : Type 0 where
  pub width : p.width ≡ q.width
  pub height : p.height ≡ q.height
  pub xres : p.xres ≡ q.xres
  pub yres : p.yres ≡ q.yres
  pub unit : p.unit ≡ q.unit
  pub pixels : (r c : ℕ) →
      r < p.height → c < p.width → covers_pixel boxes r c ≡ false → pixel p r c ≡ pixel q r c
