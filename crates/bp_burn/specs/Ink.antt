-- Ink on pages: figures as truth values of a row and a column, both counted from 0.
use Rattle.std.specs.Prelude.{ℕ, ◌+◌, ◌==◌, ◌&&◌, ◌||◌, ◌++◌, Bool, false, not, List, nat_lt, replicate}
use Rattle.bp_core.specs.declared.rectangle.Rect.{Rect}
use Rattle.bp_rows.specs.Burned.{covers_pixel}
use Rattle.bp_rows.specs.Image.{Image, grid_of, pixel}

-- the page whose pixel in row r and column c is made of what it was there
abbrev pub page_changed : Image → (ℕ → ℕ → Bool → Bool) → Image
page_changed p change =
    record p { rows = grid_of p.width p.height (λ r c. change r c (pixel p r c)) }

-- the page with the pixels of a figure black, and every other pixel as it was
abbrev pub inked : Image → (ℕ → ℕ → Bool) → Image
inked p figure =
    record p { rows = grid_of p.width p.height (λ r c. figure r c || pixel p r c) }

-- the page with the pixels of a figure white, and every other pixel as it was
abbrev pub erased : Image → (ℕ → ℕ → Bool) → Image
erased p figure = page_changed p (λ r c was. not (figure r c) && was)

-- what of the boxes lies in a row
abbrev pub in_row : ℕ → List Rect → ℕ → ℕ → Bool
in_row row boxes r c = (r == row) && covers_pixel boxes r c

-- what of the boxes lies in the first rows of a page, which are so many
abbrev pub above : ℕ → List Rect → ℕ → ℕ → Bool
above rows boxes r c = nat_lt r rows && covers_pixel boxes r c

-- the page with so many white rows more
abbrev pub with_white_rows : Image → ℕ → Image
with_white_rows p more = record p {
  height = p.height + more;
  rows = p.rows ++ replicate more (replicate p.width false);
}
