-- Strips of pages that go out (ITU-T T.6).
use Rattle.std.specs.Prelude.{ℕ, ◌≡◌, ◌+◌, ◌-◌, ◌&&◌, Bool, List, nat_le, nat_lt, replicate}
use Rattle.std.specs.List.{list_any}
use Rattle.bp_core.specs.declared.rectangle.Rect.{Rect}
use Rattle.bp_core.specs.declared.review.Basis.{Basis}
use Rattle.bp_core.specs.declared.stamps.Stamp.{Stamp}
use Rattle.bp_rows.specs.Image.{Image, IsPage, grid_of}
use Rattle.bp_t6.specs.Written.{bits_strip, white_line}
use Rattle.bp_burn.specs.Band.{band_texts, slip_text}
use Rattle.bp_burn.specs.Drawn.{is_drawn}
use Rattle.bp_burn.specs.declared.band.TheConstants.{BAND_ROWS}
use Rattle.bp_burn.specs.declared.letters.TheConstants.{TEXT_ROWS}
use Rattle.bp_burn.specs.declared.slips.TheConstants.{SLIP_LEFT, SLIP_WIDTH}

-- a page of these sides whose strip this is
pub record HasStrip (width height : ℕ) (strip : List ℕ) (p : Image) : Type 0 where
  pub page : IsPage p
  pub wide : p.width ≡ width
  pub high : p.height ≡ height
  pub codes : strip ≡ bits_strip p

-- the strip of some page of these sides
pub record IsPageStrip (width height : ℕ) (strip : List ℕ) : Type 0 where
  pub page : Image
  pub has : HasStrip width height strip page

-- ---- the steps of making one

-- some row of the rectangle is that row of the page
abbrev pub has_row : Rect → ℕ → Bool
has_row box row = nat_le box.top row && nat_lt row (box.top + box.height)

-- some stamp lies in the row
abbrev pub touches_row : List Stamp → ℕ → Bool
touches_row stamps row = list_any (λ (s : Stamp). has_row s.rect row) stamps

-- some stamp lies in the row above
abbrev pub touches_above : List Stamp → ℕ → Bool
touches_above stamps row = nat_lt 0 row && touches_row stamps (row - 1)

-- the rows of the band below a page of that width
abbrev pub band_rows : ℕ → List ℕ → List ℕ → List (List Bool)
band_rows width label designation =
    grid_of width BAND_ROWS (band_texts width 0 label designation)

-- so many white rows of that width
abbrev pub white_rows : ℕ → ℕ → List (List Bool)
white_rows width rows = replicate rows (white_line width)

-- the rows of a slip sheet that its text is drawn in
abbrev pub slip_text_rows : Basis → List (List Bool)
slip_text_rows basis =
    grid_of SLIP_WIDTH TEXT_ROWS (is_drawn (slip_text basis) 0 SLIP_LEFT 0)
