-- Strips under way, a line at a time: what was read so far, and what was added so far.
use Rattle.std.specs.Prelude.{ℕ, ◌+◌, ◌<◌, ◌≤◌, ◌≡◌, Bool, List, [], ◌∷◌, ◌++◌, length, drop, take, slice_index_or, Option, Some, None}
use Rattle.bp_core.specs.declared.refusals.Refusal.{Refusal}
use Rattle.bp_core.specs.declared.refusals.Refusal.TheVariants as refusals
use Rattle.bp_core.specs.declared.rules.Rule.{Rule as BrokenRule}
use Rattle.bp_codes.specs.declared.span.Fill.TheVariants.{High}
use Rattle.bp_codes.specs.Bits.{bits_of}
use Rattle.bp_rows.specs.declared.limits.TheConstants.{MAX_WIDTH}
use Rattle.bp_rows.specs.Changes.{changes_of, Rises, Shows}
use Rattle.bp_rows.specs.Image.{Image, IsPage}
use Rattle.bp_rows.specs.Runs.{IsRuns}
use Rattle.bp_t6.specs.Written.{row_code, white_line, bits_strip}
use Rattle.bp_t6.specs.Read.{RowReads}

-- the last of some lines, or the one above them
abbrev pub last_line : List Bool → List (List Bool) → List Bool
last_line above [] = above
last_line above (line ∷ lines) = last_line line lines

-- the row above a row of a page, which counts from 0; above the first a white one
abbrev pub row_above : Image → ℕ → List Bool
row_above p count = last_line (white_line p.width) (take count p.rows)

-- each line has that width
abbrev pub HaveWidth : ℕ → List (List Bool) → Type 0
HaveWidth width lines = (i : ℕ) → i < length lines → length (slice_index_or lines i []) ≡ width

-- ---- added

-- the codes of lines in turn, each against the one above it (ITU-T T.6, 2.2.4), without an end
abbrev pub codes_so_far : List Bool → List (List Bool) → List Bool
codes_so_far above [] = []
codes_so_far above (line ∷ lines) = row_code above line ++ codes_so_far line lines

-- what a writer shows: the width of its lines, their codes, and the changing elements of the last
pub record AddedSoFar : Type 0 where
  pub width : ℕ
  pub bits : List Bool
  pub above : List ℕ

-- these lines were added, the first against a white one
pub record HasAdded (writer : AddedSoFar) (lines : List (List Bool)) : Type 0 where
  pub wide : HaveWidth writer.width lines
  pub coded : writer.bits ≡ codes_so_far (white_line writer.width) lines
  pub last : writer.above ≡ changes_of (last_line (white_line writer.width) lines)

-- what a writer keeps
pub record IsWriter (width : ℕ) (above : List ℕ) : Type 0 where
  pub wide : width ≤ MAX_WIDTH
  pub rises : Rises above width

-- ---- read

-- lines are read in turn, and these bits are left
abbrev pub LinesTo : List Bool → List Bool → List (List Bool) → List Bool → Type 0
LinesTo above bits [] rest = bits ≡ rest
LinesTo above bits (line ∷ lines) rest =
    (next : List Bool) × RowReads above bits line next × LinesTo line next lines rest

-- what a reader shows: its bits, the width of its lines, how many were read and up to which bit,
-- places that show the last one, and the rule that was broken
pub record ReadSoFar : Type 0 where
  pub bits : List Bool
  pub width : ℕ
  pub row : ℕ
  pub at : ℕ
  pub above : List ℕ
  pub fault : Option BrokenRule

-- these lines were read, the first against a white one
pub record HasRead (reader : ReadSoFar) (lines : List (List Bool)) : Type 0 where
  pub count : length lines ≡ reader.row
  pub wide : HaveWidth reader.width lines
  pub read : LinesTo (white_line reader.width) reader.bits lines (drop reader.at reader.bits)
  pub last : Shows reader.above reader.width (last_line (white_line reader.width) lines)

-- behind these lines one more was read, of these runs
pub record ReadsNextRow (lines : List (List Bool)) (reader : ReadSoFar) (runs : List ℕ)
    : Type 0 where
  pub line : List Bool
  pub are : IsRuns runs line
  pub so : HasRead reader (lines ++ line ∷ [])

-- behind these lines one more was read, which the places show
pub record ReadsLine (lines : List (List Bool)) (reader : ReadSoFar) : Type 0 where
  pub line : List Bool
  pub shows : Shows reader.above reader.width line
  pub so : HasRead reader (lines ++ line ∷ [])

-- no line was read of bits
abbrev pub unread : List Bool → ℕ → ReadSoFar
unread bits width =
    record { bits = bits; width = width; row = 0; at = 0; above = []; fault = None }

-- the same with the rule that is broken
abbrev pub stopped : ReadSoFar → BrokenRule → ReadSoFar
stopped reader rule = record reader { fault = Some rule }

-- the rule of a refusal
abbrev pub rule_of : Refusal → Option BrokenRule
rule_of (refusals.Rule rule) = Some rule
rule_of refusals.OutOfMemory = None

-- what a reader keeps: each line takes a bit at least, and the places show some line
pub record IsReader (bits : List Bool) (width row at : ℕ) (above : List ℕ) : Type 0 where
  pub some : 0 < width
  pub wide : width ≤ MAX_WIDTH
  pub within : at ≤ length bits
  pub bits_a_row : row ≤ at
  pub over : List Bool
  pub shows : Shows above width over

-- what a reader keeps that has room for the changes of two rows: one at each place, one at the end, and
-- one that is taken back
pub record IsRoomyReader (Reads : Type 0) (width above line : ℕ) : Type 0 where
  pub reads : Reads
  pub above_room : width + 2 ≤ above
  pub line_room : width + 2 ≤ line

-- the same room before the first row
pub record IsRowRoom (width : ℕ) (places : List ℕ) (above line : ℕ) : Type 0 where
  pub none : places ≡ []
  pub above_room : width + 2 ≤ above
  pub line_room : width + 2 ≤ line

-- the bits of a row's code lie in the strip
pub record LiesIn (bits : List Bool) (from to : ℕ) : Type 0 where
  pub order : from ≤ to
  pub within : to ≤ length bits

-- over the strip of a page, of whose rows so many were read, and no rule was broken
pub record ReadsPage (p : Image) (count : ℕ) (reader : ReadSoFar) : Type 0 where
  pub bits : reader.bits ≡ bits_of High (bits_strip p)
  pub width : reader.width ≡ p.width
  pub fault : reader.fault ≡ None
  pub read : HasRead reader (take count p.rows)

-- over the strip of a page, of whose rows one is left
pub record HasNextRow (reader : ReadSoFar) : Type 0 where
  pub page : Image
  pub is : IsPage page
  pub left : reader.row < page.height
  pub reads : ReadsPage page reader.row reader
