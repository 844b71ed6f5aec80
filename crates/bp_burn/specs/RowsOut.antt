-- Rows on their way out of a page's strip: read and covered, one after another.
use Rattle.std.specs.Prelude.{ℕ, ◌-◌, ◌<◌, ◌≤◌, ◌≡◌, Bool, true, false, List, [], ◌∷◌, slice_range}
use Rattle.bp_core.specs.declared.stamps.Ink.{Ink}
use Rattle.bp_core.specs.declared.stamps.Stamp.{Stamp}
use Rattle.bp_codes.specs.declared.span.Fill.TheVariants.{High}
use Rattle.bp_codes.specs.Bits.{bits_of}
use Rattle.bp_rows.specs.Changes.{Shows}
use Rattle.bp_rows.specs.Image.{Image, IsPage, row_of}
use Rattle.bp_t6.specs.SoFar.{ReadSoFar, ReadsPage, row_above}
use Rattle.bp_t6.specs.Written.{row_code, bits_strip}
use Rattle.bp_burn.specs.Covered.{covered}
use Rattle.bp_burn.specs.Strips.{touches_above, touches_row}
use Rattle.bp_burn.specs.declared.covered_rows.CoveredRow.{CoveredRow}
use Rattle.bp_burn.specs.declared.covered_rows.CoveredRow.TheVariants.{Painted, Bare, Coded}

-- what they show: the bits of the strip and the sides of its page, ink and stamps, and how many rows
-- were read
pub record RowsOut : Type 0 where
  pub bits : List Bool
  pub width : ℕ
  pub height : ℕ
  pub ink : Ink
  pub stamps : List Stamp
  pub row : ℕ

-- a page of these sides whose strip has these bits
pub record HasBits (width height : ℕ) (bits : List Bool) (p : Image) : Type 0 where
  pub page : IsPage p
  pub wide : p.width ≡ width
  pub high : p.height ≡ height
  pub codes : bits ≡ bits_of High (bits_strip p)

-- rows of the page
abbrev pub AreOf : RowsOut → Image → Type 0
AreOf rows p = HasBits rows.width rows.height rows.bits p

-- rows of some page
pub record OfSomePage (rows : RowsOut) : Type 0 where
  pub page : Image
  pub are : AreOf rows page

-- the row that was read last, covered
abbrev pub last_out : RowsOut → Image → List Bool
last_out rows p = row_of (covered rows.ink p rows.stamps) (rows.row - 1)

-- the covered row above it
abbrev pub above_out : RowsOut → Image → List Bool
above_out rows p = row_above (covered rows.ink p rows.stamps) (rows.row - 1)

-- a page of one row, which is this line of that width
pub record IsOneRow (width : ℕ) (line : List Bool) (page : Image) : Type 0 where
  pub wide : page.width ≡ width
  pub high : page.height ≡ 1
  pub row : row_of page 0 ≡ line

-- what is lent is this line of that width; where its code is lent too, that is the code below the
-- other line
abbrev pub IsLine : ℕ → List Bool → List Bool → CoveredRow → Type 0
IsLine width above line (Painted page) = IsOneRow width line page.now
IsLine width above line (Bare places) = Shows places.now width line
IsLine width above line (Coded places code) = Shows places.now width line × (code ≡ row_code above line)

-- a stamp lies in the row above and none in the row
pub record IsBelowStamp (stamps : List Stamp) (row : ℕ) : Type 0 where
  pub bare : touches_row stamps row ≡ false
  pub above : touches_above stamps row ≡ true

-- a stamp lies neither in the row nor in the row above
pub record IsApart (stamps : List Stamp) (row : ℕ) : Type 0 where
  pub bare : touches_row stamps row ≡ false
  pub above : touches_above stamps row ≡ false

-- which kind of row is lent hangs on the stamps alone: it is painted exactly where a stamp lies in the
-- row, bare exactly where one lies in the row above alone, and with its code else
abbrev pub IsKindBy : List Stamp → ℕ → CoveredRow → Type 0
IsKindBy stamps row (Painted page) = touches_row stamps row ≡ true
IsKindBy stamps row (Bare places) = IsBelowStamp stamps row
IsKindBy stamps row (Coded places code) = IsApart stamps row

-- ---- what they keep

-- a row of memory, white, and the runs of a white row
pub record IsOutRoom (width : ℕ) (line : Image) (white : List ℕ) : Type 0 where
  pub wide : line.width ≡ width
  pub high : line.height ≡ 1
  pub blank : white ≡ width ∷ []

-- what is known of the row of a page that was read last
pub record HasGoneOut
    (p : Image) (reader : ReadSoFar) (from : ℕ) (line : Image) (ink : Ink) (stamps : List Stamp) (row : ℕ)
    : Type 0
  where
    pub shows : Shows reader.above reader.width (row_of p row)
    pub code : slice_range reader.bits from reader.at ≡ row_code (row_above p row) (row_of p row)
    pub painted : touches_row stamps row ≡ true → row_of line 0 ≡ row_of (covered ink p stamps) row

-- the reader stands behind so many rows of its page, and the last of them is at hand
pub record IsGoingOut
    (reader : ReadSoFar) (from : ℕ) (line : Image) (white : List ℕ) (ink : Ink) (stamps : List Stamp)
    (height row : ℕ)
    : Type 0
  where
    pub page : Image
    pub own : HasBits reader.width height reader.bits page
    pub reads : (p : Image) → HasBits reader.width height reader.bits p → ReadsPage p row reader
    pub down : row ≤ height
    pub before : from ≤ reader.at
    pub wide : line.width ≡ reader.width
    pub high : line.height ≡ 1
    pub blank : white ≡ reader.width ∷ []
    pub last : 0 < row →
        (p : Image) → HasBits reader.width height reader.bits p →
        HasGoneOut p reader from line ink stamps (row - 1)
