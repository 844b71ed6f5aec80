-- Boxes covered: all black, or with the code of its ground in white where a box has room for it.
-- The look comes from no public standard: it is this product's own.
use Rattle.std.specs.Prelude.{ℕ, ◌+◌, ◌&&◌, ◌||◌, Bool, false, not, Option, Some, None, List, [], ◌∷◌, map, nat_le, nat_lt, if◌then◌else◌}
use Rattle.bp_core.specs.Rectangle.{has_pixel}
use Rattle.bp_core.specs.Review.{basis_code}
use Rattle.bp_core.specs.declared.rectangle.Rect.{Rect}
use Rattle.bp_core.specs.declared.stamps.Ink.{Ink}
use Rattle.bp_core.specs.declared.stamps.Ink.TheVariants.{Black, Lettered}
use Rattle.bp_core.specs.declared.stamps.Stamp.{Stamp}
use Rattle.bp_rows.specs.Burned.{covers_pixel}
use Rattle.bp_rows.specs.Image.{Image}
use Rattle.bp_burn.specs.Drawn.{is_drawn}
use Rattle.bp_burn.specs.Ink.{page_changed}
use Rattle.bp_burn.specs.declared.letters.TheConstants.{LETTERED_WIDTH, LETTERED_HEIGHT, LETTERS_IN}

-- ---- one stamp: a box with its ground

-- it has room for its letters
abbrev pub is_lettered : Stamp → Bool
is_lettered s = nat_le LETTERED_WIDTH s.rect.width && nat_le LETTERED_HEIGHT s.rect.height

-- its letters have the pixel: the code of its ground, drawn three pixels in from its upper left
-- corner
abbrev pub has_letter : Stamp → ℕ → ℕ → Bool
has_letter s r c =
    is_drawn (basis_code s.basis) (s.rect.top + LETTERS_IN) (s.rect.left + LETTERS_IN) 0 r c

-- ---- stamps in turn

-- the rectangles of stamps
abbrev pub rects_of : List Stamp → List Rect
rects_of stamps = map (λ (s : Stamp). s.rect) stamps

-- the last stamp whose rectangle has the pixel
abbrev pub last_with : List Stamp → ℕ → ℕ → Option Stamp
last_with [] r c = None
last_with (s ∷ stamps) r c = elim (last_with stamps r c) [
  | None ↦ if has_pixel s.rect r c then Some s else None
  | Some later ↦ Some later
]

-- What becomes of a pixel. In black: black where some rectangle has it. Lettered: the last stamp
-- whose rectangle has it decides, and it is white where that stamp is lettered and its letters have
-- it, and black otherwise.
abbrev pub covered_pixel : Ink → List Stamp → ℕ → ℕ → Bool → Bool
covered_pixel Black stamps r c was = covers_pixel (rects_of stamps) r c || was
covered_pixel Lettered stamps r c was = elim (last_with stamps r c) [
  | None ↦ was
  | Some s ↦ not (is_lettered s && has_letter s r c)
]

-- Covered: the page of the same sides, resolutions and unit, its pixels covered
abbrev pub covered : Ink → Image → List Stamp → Image
covered ink p stamps = page_changed p (covered_pixel ink stamps)

-- ---- the steps of covering

-- the stamp shows its letters
abbrev pub shows_letters : Ink → Stamp → Bool
shows_letters Black s = false
shows_letters Lettered s = is_lettered s

-- the first rows of a page, which are so many, covered; its row 0 is a row of the page of the stamps
abbrev pub covered_rows : ℕ → ℕ → Ink → List Stamp → ℕ → ℕ → Bool → Bool
covered_rows rows first ink stamps r c was =
    if nat_lt r rows then covered_pixel ink stamps (first + r) c was else was

-- what lies in these rows of the letters of a stamp
abbrev pub letters_in : ℕ → ℕ → Stamp → ℕ → ℕ → Bool
letters_in rows first s r c = nat_lt r rows && has_letter s (first + r) c
