-- The command `produce`: its line, what it comes to, and what it withholds.
use Rattle.std.specs.Prelude.{ℕ, ◌≡◌, ◌⊎◌, ◌++◌, Option, Some, None, Result, Ok}
use Rattle.std.specs.Prelude.{Err, List, drop, length, map, nat_le, codes, encode_utf8_all}
use Rattle.std.specs.Prelude.{if◌then◌else◌}
use Rattle.std.specs.Fmt.{decimal}
use Rattle.std.specs.Str.{chars}
use Rattle.hex.specs.Hex.{encode_lower}
use Rattle.bp_core.specs.declared.kept.Row.{Row}
use Rattle.bp_core.specs.declared.rules.Rule.{Rule}
use Rattle.bp_outside.specs.declared.files.FileRow.{FileRow}
use Rattle.bp_matter.specs.KeptRows.{rows_of}
use Rattle.bp_matter.specs.Matter.{Matter}
use Rattle.bp_matter.specs.declared.rows.Production.{Production}
use Rattle.bp_matter.specs.declared.rows.Request.{Request}
use Rattle.bp_freeze.specs.Agree.{Agree}
use Rattle.bp_freeze.specs.Alike.{Alike}
use Rattle.bp_freeze.specs.Freezing.{freeze_of, kept_production}
use Rattle.bp_freeze.specs.Keeping.{frozen_matter}
use Rattle.bp_freeze.specs.Log.{label_in}
use Rattle.bp_press.specs.Volume.{volume_of}
use Rattle.bp_press.specs.Pressed.{pressed_of}
use Rattle.bp_press.specs.declared.pressing.Pressed.{Pressed}
use Rattle.bp_cli.specs.declared.produce.TheConstants.{MAX_WIDTH_WORD, REQUEST_WORDS}
use Rattle.bp_cli.specs.Words.{operand_number, word_of, ◌>>=◌}
use Rattle.bp_cli.specs.Endings.{Outcome, done, refused, line_of}
use Rattle.bp_cli.specs.Kept.{OfTwo}

-- ---- its line

-- the width of labels
abbrev pub width_of : List ℕ → Option ℕ
width_of word = do
  width ← operand_number word
  if nat_le width MAX_WIDTH_WORD then Some width else None

-- the texts of a request as characters
abbrev pub request_with : List (List ℕ) → ℕ → ℕ → ℕ → Request
request_with operands width from to = record {
  id = chars (word_of operands 0);
  volume = chars (word_of operands 1);
  prefix = record { text = chars (word_of operands 2); width = width };
  from = record { 0 = from };
  to = record { 0 = to };
  fields = map chars (drop REQUEST_WORDS operands);
}

-- produce ID VOLUME PREFIX WIDTH FROM TO, and any number of fields
abbrev pub request_of_words : List (List ℕ) → Option Request
request_of_words operands =
    if nat_le REQUEST_WORDS (length operands)
    then (do
      width ← width_of (word_of operands 3)
      from ← operand_number (word_of operands 4)
      to ← operand_number (word_of operands 5)
      Some (request_with operands width from to))
    else None

-- ---- what it comes to

-- `production ID labels FIRST to LAST files N manifest HEX`, in three parts
abbrev pub id_told : Production → List ℕ
id_told f = codes "production " ++ encode_utf8_all f.request.id

-- the labels of a production in its line
abbrev pub labels_told : Production → List ℕ
labels_told f =
    let prefix = f.request.prefix in
    codes " labels " ++ label_in prefix f.span.first ++ codes " to " ++ label_in prefix f.span.last

-- the numbers of a volume in its line
abbrev pub numbers_told : Pressed → List ℕ
numbers_told pressed =
    line_of (codes " files " ++ decimal pressed.files
    ++ codes " manifest " ++ encode_lower pressed.manifest)

-- the line of a volume
abbrev pub volume_line : Production → Pressed → List ℕ
volume_line f pressed = id_told f ++ labels_told f ++ numbers_told pressed

-- the volume of a production stands, and these rows, where any are kept
abbrev pub volume_done : Production → List FileRow → Option (List Row) → Outcome
volume_done f volume rows = done (volume_line f (pressed_of volume)) volume rows

-- the lead, who may freeze, froze this production: its volume stands, and the matter keeps it
abbrev pub frozen_gives : Matter → Result Production Rule → Outcome
frozen_gives m (Ok f) =
    let after = frozen_matter f m in volume_done f (volume_of f after) (Some (rows_of after))
frozen_gives m (Err rule) = refused rule

-- what produce gives of a matter, or of rows that are none
abbrev pub produce_gives : Request → Result Matter Rule → Outcome
produce_gives q (Ok m) = frozen_gives m (freeze_of m q)
produce_gives q (Err rule) = refused rule

-- ---- what it withholds

-- both keep one production under the id that is asked for, and show the same of it, whatever was
-- decided since
pub record KeptSame (q : Request) (m n : Matter) : Type 0 where
  pub f : Production
  pub kept : kept_production m.productions q.id ≡ Some f
  pub kept' : kept_production n.productions q.id ≡ Some f
  pub shown : Agree f m n

-- the same was decided, and what the request freezes shows the same in both; or it was frozen
-- before
abbrev pub FrozenAlike : Request → Matter → Matter → Type 0
FrozenAlike q m n = Alike q m n ⊎ KeptSame q m n

-- the kept rows are those of two such matters
abbrev pub KeptAlike : Request → Option (List Row) → Option (List Row) → Type 0
KeptAlike q (Some rows) (Some rows') = OfTwo (KeptSame q) rows rows'
KeptAlike q _ _ = ⊥
