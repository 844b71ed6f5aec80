-- The image of a page as it is kept: sides, resolutions, unit, and its T.6 strip.
use Rattle.std.specs.Prelude.{◌≡◌, ℕ, zero, suc, Bool, true, false, List, [], ◌∷◌, ◌++◌, length, map, ◌==◌, ◌&&◌, Option, Some, None, unwrap_or, if◌then◌else◌}
use Rattle.std.specs.List.{find, list_all}
use Rattle.std.specs.Str.{bytes_eq}
use Rattle.bp_codes.specs.declared.span.Fill.TheVariants.{High}
use Rattle.bp_codes.specs.Bits.{bits_of}
use Rattle.bp_rows.specs.Image.{Image, IsGrid, IsPage}
use Rattle.bp_rows.specs.Limits.{sides_are_allowed}
use Rattle.bp_rows.specs.declared.resolution.Unit.{Unit as LengthUnit}
use Rattle.bp_rows.specs.declared.resolution.Unit.TheVariants as units
use Rattle.bp_t6.specs.Read.{StripReads}
use Rattle.bp_t6.specs.Strips.{page_of_lines as plain_image}
use Rattle.bp_t6.specs.Written.{bits_strip}
use Rattle.bp_matter.specs.declared.kept_page.Frame.{Frame}

-- its strip: the rows coded, the end of the facsimile block and zero bits to the byte (ITU-T T.6,
-- 2.2.4)
-- by ITU-T T.6; TIFF 6.0, section 8, ResolutionUnit
unfoldable pub strip : Image → List ℕ
strip p = bits_strip p

-- the number of a unit of length (TIFF 6.0, section 8, ResolutionUnit)
-- by ITU-T T.6; TIFF 6.0, section 8, ResolutionUnit
abbrev pub unit_number : LengthUnit → ℕ
unit_number units.None = 1
unit_number units.Inch = 2
unit_number units.Centimetre = 3

-- so many lines, each of that many pixels
abbrev pub is_grid : ℕ → ℕ → List (List Bool) → Bool
is_grid width height lines =
    (length lines == height) && list_all (λ line. length line == width) lines

-- sides that a page may have, and lines of these sides
abbrev pub has_lines : ℕ → ℕ → List (List Bool) → Bool
has_lines width height lines = sides_are_allowed width height && is_grid width height lines

-- each of the values before each of the lists
abbrev pub each_before : {A : Type 0} → List A → List (List A) → List (List A)
each_before [] lists = []
each_before (value ∷ values) lists = map (λ l. value ∷ l) lists ++ each_before values lists

-- all lists of so many of the values
abbrev pub all_lists : {A : Type 0} → List A → ℕ → List (List A)
all_lists values zero = [] ∷ []
all_lists values (suc n) = each_before values (all_lists values n)

-- all lines of these sides
unfoldable pub all_lines : ℕ → ℕ → List (List (List Bool))
all_lines width height = all_lists (all_lists (false ∷ true ∷ []) width) height

-- these lines have these sides, and these bytes are their strip
abbrev pub is_strip : ℕ → ℕ → List ℕ → List (List Bool) → Bool
is_strip width height bytes lines =
    is_grid width height lines && bytes_eq (strip (plain_image width height lines)) bytes

-- the lines of these sides whose strip these bytes are, if a page may have the sides and there
-- are any
unfoldable pub lines_of : ℕ → ℕ → List ℕ → Option (List (List Bool))
lines_of width height bytes =
    if sides_are_allowed width height
    then find (is_strip width height bytes) (all_lines width height) else None

-- ---- a page that is kept as its strip

-- the page of these rows in a frame
abbrev pub in_frame : Frame → List (List Bool) → Image
in_frame frame rows = record {
  width = frame.width;
  height = frame.height;
  xres = frame.xres;
  yres = frame.yres;
  unit = frame.unit;
  rows = rows;
}

-- the page in a frame whose strip these bytes are; it has no rows where they are the strip of none
abbrev pub image_kept : Frame → List ℕ → Image
image_kept frame bytes = in_frame frame (unwrap_or (lines_of frame.width frame.height bytes) [])

-- what is kept of a page is its strip
pub record IsKeptPage (p : Image) (bytes : List ℕ) : Type 0 where
  pub page : IsPage p
  pub strip : bytes ≡ bits_strip p

-- a page in a frame whose lines are read from a strip
-- by ITU-T T.6, 2.2.3
pub record IsReadFrom (frame : Frame) (bytes : List ℕ) (p : Image) : Type 0 where
  pub page : IsPage p
  pub framed : p ≡ in_frame frame p.rows
  pub reads : StripReads (bits_of High bytes) frame.width frame.height p.rows

-- the page that is read from a strip, or that none is
abbrev pub GivesRead : Frame → List ℕ → Option Image → Type 0
GivesRead frame bytes None =
    (lines : List (List Bool))
    → StripReads (bits_of High bytes) frame.width frame.height lines
    → ⊥
GivesRead frame bytes (Some p) = IsReadFrom frame bytes p

-- ---- the steps of a check

-- lines of these sides that are read from the bytes, and the strip that they have
pub record CodesOf (width height : ℕ) (bytes written : List ℕ) : Type 0 where
  pub lines : List (List Bool)
  pub grid : IsGrid width height lines
  pub reads : StripReads (bits_of High bytes) width height lines
  pub codes : written ≡ bits_strip (plain_image width height lines)

-- the strip of the lines that are read from the bytes, or that none are
abbrev pub CodedAgain : ℕ → ℕ → List ℕ → Option (List ℕ) → Type 0
CodedAgain width height bytes None =
    (lines : List (List Bool)) → StripReads (bits_of High bytes) width height lines → ⊥
CodedAgain width height bytes (Some written) = CodesOf width height bytes written
