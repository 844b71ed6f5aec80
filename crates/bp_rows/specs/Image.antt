-- Bilevel images (TIFF 6.0, section 3).
use Rattle.std.specs.Prelude.{ℕ, ◌≡◌, ◌<◌, ◌^◌, Bool, false, IsTrue, List, [], length, map, replicate, slice_index_or, slice_set}
use Rattle.std.specs.List.{range_with_len}
use Rattle.bp_rows.specs.Limits.{sides_are_allowed}
use Rattle.bp_rows.specs.declared.resolution.Res.{Res}
use Rattle.bp_rows.specs.declared.resolution.Unit.{Unit as LengthUnit}

-- Sides in pixels, two resolutions and their unit, and the rows from the top, each from the left.
-- True is black.
-- by TIFF 6.0, section 3, bilevel images
pub record Image : Type 0 where
  pub width : ℕ
  pub height : ℕ
  pub xres : Res
  pub yres : Res
  pub unit : LengthUnit
  pub rows : List (List Bool)

-- so many rows, each of that many pixels
-- by TIFF 6.0, section 3, bilevel images
pub record IsGrid (width height : ℕ) (rows : List (List Bool)) : Type 0 where
  pub down : length rows ≡ height
  pub across : (r : ℕ) → r < height → length (slice_index_or rows r []) ≡ width

-- a resolution of two numbers of 32 bits
-- by TIFF 6.0, section 3, bilevel images
pub record FitsRes (res : Res) : Type 0 where
  pub num : res.num < 2 ^ 32
  pub den : res.den < 2 ^ 32

-- an image of allowed sides, with rows of these sides
-- by TIFF 6.0, section 3, bilevel images
pub record IsPage (p : Image) : Type 0 where
  pub sides : IsTrue (sides_are_allowed p.width p.height)
  pub xres : FitsRes p.xres
  pub yres : FitsRes p.yres
  pub grid : IsGrid p.width p.height p.rows

-- a row, counted from 0 at the top
abbrev pub row_of : Image → ℕ → List Bool
row_of p row = slice_index_or p.rows row []

-- the pixel in a row and a column
abbrev pub pixel : Image → ℕ → ℕ → Bool
pixel p row col = slice_index_or (row_of p row) col false

-- that row made these pixels, and all else as it was
abbrev pub with_row : Image → ℕ → List Bool → Image
with_row p row line = record p { rows = slice_set p.rows row line }

-- that pixel made black or white, and all else as it was
abbrev pub with_pixel : Image → ℕ → ℕ → Bool → Image
with_pixel p row col black = with_row p row (slice_set (row_of p row) col black)

-- all pixels white
abbrev pub white_image : ℕ → ℕ → Res → Res → LengthUnit → Image
white_image w h x y u =
    let rows : List (List Bool) = replicate h (replicate w false) in
    record { width = w; height = h; xres = x; yres = y; unit = u; rows = rows }

-- the rows whose pixel in row r and column c is f r c
abbrev pub grid_of : ℕ → ℕ → (ℕ → ℕ → Bool) → List (List Bool)
grid_of width height f = map (λ r. map (f r) (range_with_len 0 width)) (range_with_len 0 height)
