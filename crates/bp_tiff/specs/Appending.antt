-- The rows that a reader has put one behind another.
use Rattle.std.specs.Prelude.{ℕ, ◌*◌, ◌-◌, ◌≡◌, min, true, false, List, ◌++◌, length}
use Rattle.bp_codes.specs.declared.span.Fill.{Fill}
use Rattle.bp_codes.specs.declared.span.Fill.TheVariants.{High}
use Rattle.bp_core.specs.declared.rules.Rule.{Rule}
use Rattle.bp_rows.specs.Bits.{row_bytes}
use Rattle.bp_tiff.specs.declared.layout.Coding.{Coding}
use Rattle.bp_tiff.specs.declared.layout.Layout.{Layout}
use Rattle.bp_tiff.specs.Pixels.{Lines, packed_values, value_inked}
use Rattle.bp_tiff.specs.Read.{StripHoldsRows, StripsHold, StripsBreak, strip_rows}

-- decoded rows have the first pixel in the high bit; others keep the order of the file
abbrev pub kept_fill : Coding → Fill
kept_fill c = elim c.is_t6 [ true ↦ High | false ↦ c.fill ]

-- the lines of packed rows, as the file means them
abbrev pub lines_in : Layout → ℕ → List ℕ → Lines
lines_in l rows bytes =
    value_inked l.coding.zero_is_black (packed_values (kept_fill l.coding) l.sides.width rows bytes)

-- the rows of strip k came to the end
pub record AppendsStrip (bytes : List ℕ) (l : Layout) (k : ℕ) (old new : List ℕ) : Type 0 where
  pub more : List ℕ
  pub joined : new ≡ old ++ more
  pub long : length more ≡ strip_rows l k * row_bytes l.sides.width
  pub holds : StripHoldsRows bytes l k (lines_in l (strip_rows l k) more)

-- how many rows the strips before strip k have
abbrev pub rows_before : Layout → ℕ → ℕ
rows_before l k = min (k * l.strips.rows) l.sides.height

-- the strips before strip k were read: with what the others hold, all is held, and a rule that one
-- of the others breaks first is the first
pub record HasReadStrips (bytes : List ℕ) (l : Layout) (k : ℕ) (out : List ℕ) : Type 0 where
  pub long : length out ≡ rows_before l k * row_bytes l.sides.width
  pub holds : (rest : Lines)
      → StripsHold bytes l (l.strips.count - k) k rest
      → StripsHold bytes l l.strips.count 0 (lines_in l (rows_before l k) out ++ rest)
  pub breaks : (rule : Rule)
      → StripsBreak bytes l (l.strips.count - k) k rule
      → StripsBreak bytes l l.strips.count 0 rule

-- packed rows that hold what all strips hold
pub record HoldsAll (bytes : List ℕ) (l : Layout) (rows : List ℕ) : Type 0 where
  pub long : length rows ≡ l.sides.height * row_bytes l.sides.width
  pub holds : StripsHold bytes l l.strips.count 0 (lines_in l l.sides.height rows)
