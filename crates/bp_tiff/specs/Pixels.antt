-- The pixels that a strip holds (TIFF 6.0, sections 8 and 11), or the rule that it breaks.
use Rattle.std.specs.Prelude.{ℕ, ◌≡◌, ◌*◌, ◌/◌, ◌%◌, ◌≤◌, ◌<◌, Bool, true, false, not, List, length, map, slice_index, ◌==◌, if◌then◌else◌}
use Rattle.std.specs.Int.{bit_at}
use Rattle.bp_codes.specs.declared.span.Fill.{Fill}
use Rattle.bp_codes.specs.declared.span.Fill.TheVariants.{High, Low}
use Rattle.bp_codes.specs.Bits.{bits_of}
use Rattle.bp_core.specs.declared.rules.Rule.{Rule}
use Rattle.bp_rows.specs.Bits.{row_bytes, black_at, place}
use Rattle.bp_rows.specs.Image.{grid_of}
use Rattle.bp_t6.specs.Read.{StripReads}
use Rattle.bp_t6.specs.Strips.{SaysFault}
use Rattle.bp_tiff.specs.declared.layout.Coding.{Coding}
use Rattle.bp_tiff.specs.Rules.{tiff_strips}

-- lines of pixels, true as black
abbrev pub Lines : Type 0
Lines = List (List Bool)

-- ---- values and ink

-- section 8, FillOrder: the value of the pixel at a place counted from the first bit of the bytes
-- by TIFF 6.0, section 8, FillOrder, Compression, PhotometricInterpretation
abbrev pub bit_in : Fill → List ℕ → ℕ → Bool
bit_in High bytes at = black_at bytes at
bit_in Low bytes at = bit_at (slice_index bytes (at / 8)) (at % 8) == 1

-- section 8, Compression 1: rows of values, each in whole bytes
-- by TIFF 6.0, section 8, FillOrder, Compression, PhotometricInterpretation
abbrev pub packed_values : Fill → ℕ → ℕ → List ℕ → List (List Bool)
packed_values fill width rows bytes =
    grid_of width rows (λ r c. bit_in fill bytes (place width r c))

-- section 8, PhotometricInterpretation: black is a value of 1, or of 0 where 0 is black
-- by TIFF 6.0, section 8, FillOrder, Compression, PhotometricInterpretation
abbrev pub value_inked : Bool → List (List Bool) → List (List Bool)
value_inked zero_is_black values = if zero_is_black then map (map not) values else values

-- ---- the lines of a strip

-- section 11, Compression 4: those that ITU-T T.6 reads
-- by TIFF 6.0, section 11, Compression 4; section 8, Compression 1
pub record CodedHolds (c : Coding) (width rows : ℕ) (strip : List ℕ) (lines : Lines) : Type 0 where
  pub values : List (List Bool)
  pub reads : StripReads (bits_of c.fill strip) width rows values
  pub means : lines ≡ value_inked c.zero_is_black values

-- section 8, Compression 1: the bits past the width, and the bytes past the rows, are unread
-- by TIFF 6.0, section 11, Compression 4; section 8, Compression 1
pub record PackedHolds (c : Coding) (width rows : ℕ) (strip : List ℕ) (lines : Lines) : Type 0 where
  pub enough : rows * row_bytes width ≤ length strip
  pub means : lines ≡ value_inked c.zero_is_black (packed_values c.fill width rows strip)

-- a strip of so many rows holds the lines
-- by TIFF 6.0, section 11, Compression 4; section 8, Compression 1
abbrev pub StripHolds : Coding → ℕ → ℕ → List ℕ → Lines → Type 0
StripHolds c width rows strip lines = elim c.is_t6 [
  | true ↦ CodedHolds c width rows strip lines
  | false ↦ PackedHolds c width rows strip lines
]

-- ---- the rule that a strip breaks

-- a fault of T.6: the row counts from 0 in the page, the bit from 0 in the strip
abbrev pub CodedBreaks : Coding → ℕ → ℕ → ℕ → List ℕ → Rule → Type 0
CodedBreaks c width rows first strip rule =
    SaysFault (bits_of c.fill strip) width rows first rule

-- an uncompressed strip is too short for its rows
pub record PackedBreaks (width rows : ℕ) (strip : List ℕ) (rule : Rule) : Type 0 where
  pub short : length strip < rows * row_bytes width
  pub says : rule ≡ tiff_strips

-- by a strip of so many rows, whose first is that row of the page
-- a strip of either coding breaks a rule
abbrev pub StripBreaks : Coding → ℕ → ℕ → ℕ → List ℕ → Rule → Type 0
StripBreaks c width rows first strip rule = elim c.is_t6 [
  | true ↦ CodedBreaks c width rows first strip rule
  | false ↦ PackedBreaks width rows strip rule
]
