-- Rows that stand in the file as a page keeps them, one behind another (TIFF 6.0, section 8,
-- StripOffsets and StripByteCounts).
use Rattle.std.specs.Prelude.{ℕ, ◌+◌, ◌*◌, ◌≤◌, ◌<◌, ◌≡◌, false, List, take, drop}
use Rattle.bp_rows.specs.Bits.{row_bytes}
use Rattle.bp_tiff.specs.declared.layout.Layout.{Layout}
use Rattle.bp_tiff.specs.Read.{strip_rows}
use Rattle.bp_tiff.specs.Values.{nth_value}

-- strip k, counted from 0, begins where the rows before it end, which begin at a place, and has
-- bytes for all rows of its own
-- by TIFF 6.0, section 8, StripOffsets, StripByteCounts
pub record Follows (bytes : List ℕ) (l : Layout) (first k : ℕ) : Type 0 where
  pub begins : nth_value bytes l.directory l.strips.offsets k
      ≡ first + k * l.strips.rows * row_bytes l.sides.width
  pub whole : strip_rows l k * row_bytes l.sides.width
      ≤ nth_value bytes l.directory l.strips.lengths k

-- all strips have no compression, and stand one behind another
-- by TIFF 6.0, section 8, StripOffsets, StripByteCounts
pub record StandTogether (bytes : List ℕ) (l : Layout) : Type 0 where
  pub packed : l.coding.is_t6 ≡ false
  pub each : (k : ℕ) → k < l.strips.count
      → Follows bytes l (nth_value bytes l.directory l.strips.offsets 0) k

-- so many packed rows as stand in the file from a place on
-- by TIFF 6.0, section 8, StripOffsets, StripByteCounts
abbrev pub rows_from : List ℕ → Layout → ℕ → ℕ → List ℕ
rows_from bytes l at rows = take (rows * row_bytes l.sides.width) (drop at bytes)
