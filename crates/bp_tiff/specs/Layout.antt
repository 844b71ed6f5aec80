-- What a file says of its page beside the pixels: the table of its tags, in the order in which they
-- are refused (TIFF 6.0, section 8; of Compression 4, section 11).
use Rattle.std.specs.Prelude.{ℕ, zero, suc, ◌+◌, ◌-◌, ◌/◌, ◌<◌, ◌≡◌, Bool, true, Some, None, Result, Ok, List, [], ◌∷◌, length, ◌==◌, ◌&&◌, ◌||◌, nat_le, nat_lt, IsTrue, if◌then◌else◌}
use Rattle.std.specs.Option.{ok_or}
use Rattle.bp_codes.specs.declared.span.Fill.TheVariants.{High, Low}
use Rattle.bp_core.specs.declared.rules.Rule.{Rule}
use Rattle.bp_core.specs.Rules.{page_limit_rule}
use Rattle.bp_rows.specs.Limits.{sides_are_allowed}
use Rattle.bp_tiff.specs.declared.directory.Directory.{Directory}
use Rattle.bp_tiff.specs.declared.layout.Sides.{Sides}
use Rattle.bp_tiff.specs.declared.layout.Coding.{Coding}
use Rattle.bp_tiff.specs.declared.layout.Scale.{Scale}
use Rattle.bp_tiff.specs.declared.layout.Strips.{Strips}
use Rattle.bp_tiff.specs.declared.layout.Layout.{Layout}
use Rattle.bp_tiff.specs.declared.tags.TheConstants as tags
use Rattle.bp_tiff.specs.Directory.{directory_of}
use Rattle.bp_tiff.specs.Rules.{◌>>=◌, require, tiff_bounds, tiff_meaning, tiff_compression}
use Rattle.bp_tiff.specs.Units.{unit_of}
use Rattle.bp_tiff.specs.Values.{number_of_tag, number_among, values_of_tag, nth_value, resolution_of, HasValues}

-- section 8, ImageWidth, ImageLength: both sides are read first
-- by TIFF 6.0, section 8, each field; of Compression 4 section 11
unfoldable pub sides_of : List ℕ → Directory → Result Sides Rule
sides_of bytes d = do
  width ← number_of_tag bytes d tags.IMAGE_WIDTH None
  height ← number_of_tag bytes d tags.IMAGE_LENGTH None
  _ ← require (sides_are_allowed width height) (page_limit_rule width height)
  Ok (record { width = width; height = height })

-- section 8, Compression 1: none; section 11, Compression 4: ITU-T T.6
-- by TIFF 6.0, section 8, each field; of Compression 4 section 11
abbrev pub compression_of : List ℕ → Directory → Result Bool Rule
compression_of bytes d = do
  value ← number_of_tag bytes d tags.COMPRESSION None
  _ ← require (value == 1 || value == 4) (tiff_compression value)
  Ok (value == 4)

-- section 8, BitsPerSample to FillOrder: one bit a pixel from the top left; which value is black,
-- and which bit of a byte is the first
-- by TIFF 6.0, section 8, each field; of Compression 4 section 11
unfoldable pub coding_of : List ℕ → Directory → Result Coding Rule
coding_of bytes d = do
  _ ← number_among bytes d tags.BITS_PER_SAMPLE (Some 1) (1 ∷ [])
  _ ← number_among bytes d tags.SAMPLES_PER_PIXEL (Some 1) (1 ∷ [])
  _ ← number_among bytes d tags.ORIENTATION (Some 1) (1 ∷ [])
  is_t6 ← compression_of bytes d
  black ← number_among bytes d tags.PHOTOMETRIC None (0 ∷ 1 ∷ [])
  order ← number_among bytes d tags.FILL_ORDER (Some 1) (1 ∷ 2 ∷ [])
  Ok (record {
    is_t6 = is_t6;
    zero_is_black = black == 1;
    fill = if order == 2 then Low else High;
  })

-- section 8, RowsPerStrip: the rows divided by those of a strip, rounded up
-- by TIFF 6.0, section 8, each field; of Compression 4 section 11
abbrev pub strips_due : ℕ → ℕ → ℕ
strips_due height per_strip = (height + per_strip - 1) / per_strip

-- section 8, RowsPerStrip, StripOffsets, StripByteCounts: without the first there is one strip
-- by TIFF 6.0, section 8, each field; of Compression 4 section 11
unfoldable pub strips_of : List ℕ → Directory → ℕ → Result Strips Rule
strips_of bytes d height = do
  per_strip ← number_of_tag bytes d tags.ROWS_PER_STRIP (Some tags.ALL_ROWS)
  _ ← require (nat_lt 0 per_strip) (tiff_meaning tags.ROWS_PER_STRIP)
  let due = strips_due height per_strip
  offsets ← values_of_tag bytes d tags.STRIP_OFFSETS due
  lengths ← values_of_tag bytes d tags.STRIP_BYTE_COUNTS due
  Ok (record { rows = per_strip; count = due; offsets = offsets; lengths = lengths })

-- section 8, XResolution, YResolution, ResolutionUnit: an inch where nothing is said
-- by TIFF 6.0, section 8, each field; of Compression 4 section 11
unfoldable pub scale_of : List ℕ → Directory → Result Scale Rule
scale_of bytes d = do
  xres ← resolution_of bytes d tags.X_RESOLUTION
  yres ← resolution_of bytes d tags.Y_RESOLUTION
  code ← number_of_tag bytes d tags.RESOLUTION_UNIT (Some 2)
  unit ← ok_or (unit_of code) (tiff_meaning tags.RESOLUTION_UNIT)
  Ok (record { xres = xres; yres = yres; unit = unit })

-- strip k, counted from 0, ends within the file
abbrev pub is_inside : List ℕ → Directory → Strips → ℕ → Bool
is_inside bytes d s k =
    nat_le (nth_value bytes d s.offsets k + nth_value bytes d s.lengths k) (length bytes)

-- so many strips from one on do
abbrev pub are_inside : List ℕ → Directory → Strips → ℕ → ℕ → Bool
are_inside bytes d s zero k = true
are_inside bytes d s (suc left) k = is_inside bytes d s k && are_inside bytes d s left (k + 1)

-- all of it, or the first rule that is broken
-- by TIFF 6.0, sections 2, 8 and 11
unfoldable pub layout_of : List ℕ → Result Layout Rule
layout_of bytes = do
  d ← directory_of bytes
  sides ← sides_of bytes d
  coding ← coding_of bytes d
  strips ← strips_of bytes d sides.height
  scale ← scale_of bytes d
  _ ← require (are_inside bytes d strips strips.count 0) (tiff_bounds tags.STRIP_OFFSETS)
  Ok (record { directory = d; sides = sides; coding = coding; strips = strips; scale = scale })

-- what is known of a layout that was read
-- by TIFF 6.0, sections 2, 8 and 11
pub record IsLaid (bytes : List ℕ) (l : Layout) : Type 0 where
  pub sides : IsTrue (sides_are_allowed l.sides.width l.sides.height)
  pub rows : 0 < l.strips.rows
  pub count : l.strips.count ≡ strips_due l.sides.height l.strips.rows
  pub offsets : HasValues bytes l.strips.offsets l.strips.count
  pub lengths : HasValues bytes l.strips.lengths l.strips.count
  pub inside : IsTrue (are_inside bytes l.directory l.strips l.strips.count 0)
