-- The page that a file holds, or the first rule that it breaks (TIFF 6.0).
use Rattle.std.specs.Prelude.{ℕ, zero, suc, ◌≡◌, ◌+◌, ◌-◌, ◌*◌, ◌⊎◌, Result, Ok, Err, List, [], ◌++◌, take, drop, min}
use Rattle.bp_core.specs.declared.rules.Rule.{Rule}
use Rattle.bp_rows.specs.Image.{Image}
use Rattle.bp_tiff.specs.declared.layout.Layout.{Layout}
use Rattle.bp_tiff.specs.Layout.{layout_of}
use Rattle.bp_tiff.specs.Pixels.{Lines, StripHolds, StripBreaks}
use Rattle.bp_tiff.specs.Values.{nth_value}

-- ---- one strip

-- section 8, StripOffsets, StripByteCounts: the bytes of strip k, counted from 0
-- by TIFF 6.0, section 8, StripOffsets, StripByteCounts, RowsPerStrip
abbrev pub strip_bytes : List ℕ → Layout → ℕ → List ℕ
strip_bytes bytes l k =
    take (nth_value bytes l.directory l.strips.lengths k)
    (drop (nth_value bytes l.directory l.strips.offsets k) bytes)

-- section 8, RowsPerStrip: how many rows it has; the last has those that are left
-- by TIFF 6.0, section 8, StripOffsets, StripByteCounts, RowsPerStrip
abbrev pub strip_rows : Layout → ℕ → ℕ
strip_rows l k = min l.strips.rows (l.sides.height - k * l.strips.rows)

-- a strip of a file holds rows
-- by TIFF 6.0, section 8, StripOffsets, StripByteCounts, RowsPerStrip
abbrev pub StripHoldsRows : List ℕ → Layout → ℕ → Lines → Type 0
StripHoldsRows bytes l k lines =
    StripHolds l.coding l.sides.width (strip_rows l k) (strip_bytes bytes l k) lines

-- a strip of a file breaks a rule
-- by TIFF 6.0, section 8, StripOffsets, StripByteCounts, RowsPerStrip
abbrev pub Breaks : List ℕ → Layout → ℕ → Rule → Type 0
Breaks bytes l k rule =
    let first = k * l.strips.rows in
    StripBreaks l.coding l.sides.width (strip_rows l k) first (strip_bytes bytes l k) rule

-- ---- the strips in turn

-- the first lines are held by one strip, the rest by others
pub record HeldInTurn (One Others : Lines → Type 0) (lines : Lines) : Type 0 where
  pub these : Lines
  pub rest : Lines
  pub one : One these
  pub others : Others rest
  pub joined : lines ≡ these ++ rest

-- so many strips from strip k on hold the lines
-- by TIFF 6.0, section 8, StripOffsets, StripByteCounts, RowsPerStrip
abbrev pub StripsHold : List ℕ → Layout → ℕ → ℕ → Lines → Type 0
StripsHold bytes l zero k lines = lines ≡ []
StripsHold bytes l (suc left) k lines =
    HeldInTurn (StripHoldsRows bytes l k) (λ rest. StripsHold bytes l left (k + 1) rest) lines

-- one strip holds some lines, and one of the others breaks the rule
pub record BrokenLater (One : Lines → Type 0) (Others : Type 0) : Type 0 where
  pub these : Lines
  pub one : One these
  pub others : Others

-- the first of them that holds no lines breaks the rule
-- by TIFF 6.0, section 8, StripOffsets, StripByteCounts, RowsPerStrip
abbrev pub StripsBreak : List ℕ → Layout → ℕ → ℕ → Rule → Type 0
StripsBreak bytes l zero k rule = ⊥
StripsBreak bytes l (suc left) k rule =
    Breaks bytes l k rule
    ⊎ BrokenLater (StripHoldsRows bytes l k) (StripsBreak bytes l left (k + 1) rule)

-- ---- the file

-- the page of a layout and its rows
abbrev pub page_of_layout : Layout → Lines → Image
page_of_layout l lines = record {
  width = l.sides.width;
  height = l.sides.height;
  xres = l.scale.xres;
  yres = l.scale.yres;
  unit = l.scale.unit;
  rows = lines;
}

-- TiffReads: the bytes are a file of the profile that holds this page
pub record TiffReads (bytes : List ℕ) (p : Image) : Type 0 where
  pub layout : Layout
  pub laid : layout_of bytes ≡ Ok layout
  pub held : StripsHold bytes layout layout.strips.count 0 p.rows
  pub page : p ≡ page_of_layout layout p.rows

-- a strip is the first that breaks the rule
pub record StripsFault (bytes : List ℕ) (rule : Rule) : Type 0 where
  pub layout : Layout
  pub laid : layout_of bytes ≡ Ok layout
  pub broken : StripsBreak bytes layout layout.strips.count 0 rule

-- TiffFault: the rule of the header, the directory and the tags, or else of the strips
abbrev pub TiffFault : List ℕ → Rule → Type 0
TiffFault bytes rule = (layout_of bytes ≡ Err rule) ⊎ StripsFault bytes rule

-- the answer to a file: its page, or the first rule that it breaks
abbrev pub TiffAnswers : List ℕ → Result Image Rule → Type 0
TiffAnswers bytes (Ok p) = TiffReads bytes p
TiffAnswers bytes (Err rule) = TiffFault bytes rule
