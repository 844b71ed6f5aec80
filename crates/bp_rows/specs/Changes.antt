-- Changing elements of a row of pixels, true as black (ITU-T T.6, 2.2.2, changing picture
-- elements).
use Rattle.std.specs.Prelude.{ℕ, zero, suc, ◌+◌, ◌<◌, ◌≤◌, ◌≡◌, Bool, true, false, not, List, [], ◌∷◌, length, slice_index_or, if◌then◌else◌}

-- the pixel differs from the one before it
-- by ITU-T T.6, 2.2.2, changing picture elements
abbrev pub differs : Bool → Bool → Bool
differs true pixel = not pixel
differs false pixel = pixel

-- the places, counted from one on, of the changing elements of pixels that follow a pixel
-- by ITU-T T.6, 2.2.2, changing picture elements
abbrev pub changes_from : ℕ → Bool → List Bool → List ℕ
changes_from at before [] = []
changes_from at before (pixel ∷ row) =
    if differs before pixel then at ∷ changes_from (at + 1) pixel row
    else changes_from (at + 1) pixel row

-- the places of the changing elements of a row; before its first pixel stands a white one
-- by ITU-T T.6, 2.2.2, changing picture elements
abbrev pub changes_of : List Bool → List ℕ
changes_of row = changes_from 0 false row

-- ---- a row as it is kept: by the places where its colour changes

-- the place at a position, or the width past the end
abbrev pub place_at : List ℕ → ℕ → ℕ → ℕ
place_at places width k = slice_index_or places k width

-- a number is odd
abbrev pub odd : ℕ → Bool
odd zero = false
odd (suc n) = not (odd n)

-- none passes the width, and each is below the next, until the width is reached
pub record Rises (places : List ℕ) (width : ℕ) : Type 0 where
  pub within : (k : ℕ) → place_at places width k ≤ width
  pub rising : (k : ℕ) →
      place_at places width k < width → place_at places width k < place_at places width (k + 1)
  pub end : (k : ℕ) → place_at places width k ≡ width → place_at places width (k + 1) ≡ width

-- the row of that width turns black or white again at each place: up to the first it is white
pub record Shows (places : List ℕ) (width : ℕ) (row : List Bool) : Type 0 where
  pub long : length row ≡ width
  pub rises : Rises places width
  pub colour : (k i : ℕ) →
      ((j : ℕ) → j + 1 ≡ k → place_at places width j ≤ i) →
      i < place_at places width k →
      slice_index_or row i false ≡ odd k
