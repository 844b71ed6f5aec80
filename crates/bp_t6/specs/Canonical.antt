-- The one spelling of a strip that the coder writes (ITU-T T.6, 2.2.4), told as it is read.
use Rattle.std.specs.Prelude.{ℕ, ◌+◌, ◌<◌, ◌≤◌, ◌≡◌, Bool, false, List, [], ◌∷◌, ◌++◌, length, drop, replicate, ◌⊎◌}
use Rattle.bp_codes.specs.CodeLists.{end_of_block}
use Rattle.bp_rows.specs.Changes.{Shows}
use Rattle.bp_rows.specs.Image.{IsGrid}
use Rattle.bp_t6.specs.declared.lengths.TheConstants.{VERTICAL_REACH}
use Rattle.bp_t6.specs.Places.{Place, b1, b2}
use Rattle.bp_t6.specs.Modes.{Run, Mode, Pass, Horizontal, Vertical, pixels_of_run, from, place_after}
use Rattle.bp_t6.specs.Written.{written_run, row_code, white_line, bits_strip}
use Rattle.bp_t6.specs.SoFar.{HaveWidth, codes_so_far, last_line}
use Rattle.bp_t6.specs.Strips.{page_of_lines}

-- Two runs for which the coder chooses horizontal mode. Each is coded as the coder codes it; the first
-- is empty at the start of a line alone, and the second at its end alone; a1 is no further than b2, and
-- more than 3 from b1.
-- by ITU-T T.6, 2.2.4
pub record AreCanonicalRuns (above : List Bool) (place : Place) (first second : Run) : Type 0 where
  pub first_coded : first ≡ written_run (pixels_of_run first)
  pub second_coded : second ≡ written_run (pixels_of_run second)
  pub begins : 0 < place.right → 0 < pixels_of_run first
  pub goes_on : from place + pixels_of_run first < length above → 0 < pixels_of_run second
  pub no_pass : from place + pixels_of_run first ≤ b2 above place
  pub far : (b1 above place + VERTICAL_REACH < from place + pixels_of_run first)
      ⊎ (from place + pixels_of_run first + VERTICAL_REACH < b1 above place)

-- a mode that the coder chooses, if those after it are such, too: pass mode with b2 left of the end, and
-- vertical mode with a1 no further than b2
-- by ITU-T T.6, 2.2.4
abbrev pub IsCanonical : List Bool → Place → Mode → Type 0
IsCanonical above place Pass = b2 above place < length above
IsCanonical above place (Horizontal first second) = AreCanonicalRuns above place first second
IsCanonical above place (Vertical n) = b1 above place + n ≤ b2 above place + VERTICAL_REACH

-- each mode in turn
-- by ITU-T T.6, 2.2.4
abbrev pub AreCanonical : List Bool → Place → List Mode → Type 0
AreCanonical above place [] = Unit {0}
AreCanonical above place (mode ∷ modes) =
    IsCanonical above place mode × AreCanonical above (place_after above place mode) modes

-- the bytes are the strip of some lines of these sides
-- by ITU-T T.6, 2.2.4; EOFB; pad bits
pub record IsCanonicalStrip (width height : ℕ) (bytes : List ℕ) : Type 0 where
  pub lines : List (List Bool)
  pub grid : IsGrid width height lines
  pub strip : bytes ≡ bits_strip (page_of_lines width height lines)

-- ---- the steps of a check

-- from one bit to another stands the code of a row, which the places show
pub record RowIsCoded (over bits : List Bool) (start next width : ℕ) (line : List ℕ) : Type 0 where
  pub row : List Bool
  pub code : drop start bits ≡ row_code over row ++ drop next bits
  pub shows : Shows line width row

-- up to a bit stand the codes of so many lines, of which the places show the last
pub record LinesAreCoded (bits : List Bool) (width count at : ℕ) (above : List ℕ) : Type 0 where
  pub lines : List (List Bool)
  pub long : length lines ≡ count
  pub wide : HaveWidth width lines
  pub codes : bits ≡ codes_so_far (white_line width) lines ++ drop at bits
  pub shows : Shows above width (last_line (white_line width) lines)

-- the end of the facsimile block, and zero bits to the byte
-- by ITU-T T.6, EOFB; pad bits
pub record EndsBlock (bits : List Bool) : Type 0 where
  pub pad : ℕ
  pub few : pad < 8
  pub end : bits ≡ end_of_block ++ replicate pad false

-- the codes of so many lines, and the end behind them
pub record AreCodedLines (bits : List Bool) (width height : ℕ) : Type 0 where
  pub at : ℕ
  pub above : List ℕ
  pub coded : LinesAreCoded bits width height at above
  pub end : EndsBlock (drop at bits)
