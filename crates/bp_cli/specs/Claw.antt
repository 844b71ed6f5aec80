-- The command `claw`: its line, what it comes to, and what it withholds.
use Rattle.std.specs.Prelude.{ℕ, ◌≡◌, ◌==◌, ◌++◌, Option, Some, None, Result, Ok, Err, List}
use Rattle.std.specs.Prelude.{codes, encode_utf8_all, length, if◌then◌else◌, IfSome}
use Rattle.std.specs.Str.{chars}
use Rattle.bp_core.specs.declared.kept.Row.{Row}
use Rattle.bp_core.specs.declared.rules.Rule.{Rule}
use Rattle.bp_outside.specs.Source.{FileMap}
use Rattle.bp_outside.specs.declared.files.FileRow.{FileRow}
use Rattle.bp_matter.specs.Matter.{Matter}
use Rattle.bp_matter.specs.declared.rows.Production.{Production}
use Rattle.bp_freeze.specs.Freezing.{kept_production}
use Rattle.bp_freeze.specs.Refusals.{is_taken}
use Rattle.bp_press.specs.Pressed.{pressed_of}
use Rattle.bp_press.specs.declared.pressing.Pressed.{Pressed}
use Rattle.bp_claw.specs.AgreeBut.{AgreeBut}
use Rattle.bp_claw.specs.NoticeFiles.{notice_of}
use Rattle.bp_claw.specs.Refusing.{replace_rule}
use Rattle.bp_claw.specs.Replacement.{replacement_of}
use Rattle.bp_claw.specs.declared.notices.Claim.{Claim}
use Rattle.bp_cli.specs.declared.claw.ClawLine.{ClawLine}
use Rattle.bp_cli.specs.declared.claw.TheConstants.{CLAW_WORDS}
use Rattle.bp_cli.specs.Endings.{Outcome, done, refused}
use Rattle.bp_cli.specs.Kept.{CanBeLoaded, MatterAnswers, OfTwo}
use Rattle.bp_cli.specs.NamedFiles.{NamedFileAnswers}
use Rattle.bp_cli.specs.Press.{KeepSame, kept_gives}
use Rattle.bp_cli.specs.Produce.{labels_told, numbers_told}
use Rattle.bp_cli.specs.Words.{word_of}

-- ---- its line

-- the id of a production, the name of the replacement's volume, and what names the notice
pub record ClawAsked : Type 0 where
  pub id : List ℕ
  pub volume : List ℕ
  pub notice : List ℕ

-- the words of claw as contracts see them
abbrev pub claw_seen : ClawLine → ClawAsked
claw_seen line = record {
  id = chars line.id.now;
  volume = chars line.volume.now;
  notice = chars line.notice.now;
}

-- the three operands as characters
abbrev pub claw_with : List (List ℕ) → ClawAsked
claw_with operands = record {
  id = chars (word_of operands 0);
  volume = chars (word_of operands 1);
  notice = chars (word_of operands 2);
}

-- claw ID VOLUME NOTICE
abbrev pub claw_named : List (List ℕ) → Option ClawAsked
claw_named operands =
    if length operands == CLAW_WORDS then Some (claw_with operands) else None

-- ---- what it comes to

-- `replacement VOLUME labels FIRST to LAST files N manifest HEX`
abbrev pub replacement_line : List ℕ → Production → Pressed → List ℕ
replacement_line volume f pressed =
    (codes "replacement " ++ encode_utf8_all volume) ++ labels_told f ++ numbers_told pressed

-- the replacement of a production stands, under the labels of its volume; the rows stay
abbrev pub replacement_done : List ℕ → Production → List FileRow → Outcome
replacement_done volume f files = done (replacement_line volume f (pressed_of files)) files None

-- unless a rule is broken
abbrev pub replaced_unless : Option Rule → List ℕ → Production → List FileRow → Outcome
replaced_unless (Some rule) volume f files = refused rule
replaced_unless None volume f files = replacement_done volume f files

-- the replacement after a notice that was read, or the first rule
abbrev pub notice_gives : List ℕ → Matter → Production → Result (List Claim) Rule → Outcome
notice_gives volume m f (Err rule) = refused rule
notice_gives volume m f (Ok notice) =
    replaced_unless (replace_rule m f volume notice) volume f (replacement_of f notice volume m)

-- the same after a file that was read; the production is to be there before its records are read
abbrev pub file_gives : ClawAsked → Matter → Result (List ℕ) Rule → Outcome
file_gives asked m (Err rule) = refused rule
file_gives asked m (Ok bytes) =
    kept_gives (λ f. notice_gives asked.volume m f (notice_of bytes))
    (kept_production m.productions asked.id)

-- the rules of the rows come before those of the file
abbrev pub claw_gives : ClawAsked → Result Matter Rule → Result (List ℕ) Rule → Outcome
claw_gives asked (Err rule) file = refused rule
claw_gives asked (Ok m) file = file_gives asked m file

-- the outcome over the files and the rows that are told, or over some where none are
pub record ClawOutcome (asked : ClawAsked) (files : Option FileMap) (rows : Option (List Row))
    (outcome : Outcome) : Type 0 where
  pub tables : Result Matter Rule
  pub loaded : CanBeLoaded tables
  pub kept : IfSome rows (λ there. MatterAnswers there tables)
  pub file : Result (List ℕ) Rule
  pub found : NamedFileAnswers files asked.notice file
  pub gives : claw_gives asked tables file ≡ outcome

-- ---- what it withholds

-- two matters keep the same under the id, and show the same of it but of the documents that the
-- notice of these files names, whatever was decided since; the name of the volume is taken in both or
-- in none
pub record ShowSameBut (asked : ClawAsked) (files : FileMap) (m n : Matter) : Type 0 where
  pub production : KeepSame asked.id m n
  pub taken : is_taken m.productions asked.volume ≡ is_taken n.productions asked.volume
  pub shown : (f : Production) (bytes : List ℕ) (notice : List Claim)
      → kept_production m.productions asked.id ≡ Some f
      → NamedFileAnswers (Some files) asked.notice (Ok bytes)
      → notice_of bytes ≡ Ok notice
      → AgreeBut f notice m n

-- the notice is the same in both, and the rows are those of two such matters
pub record ClawAlike (asked : ClawAsked) (files files' : FileMap) (rows rows' : List Row)
    : Type 0 where
  pub same : files ≡ files'
  pub matters : OfTwo (ShowSameBut asked files) rows rows'
