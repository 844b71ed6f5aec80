-- What the steps of `claw` give: the file of the notice, and the replacement that is put.
use Rattle.std.specs.Prelude.{ℕ, ◌≡◌, ◌⊎◌, Option, Some, None, Result, Ok, Err, List}
use Rattle.bp_core.specs.declared.rules.Rule.{Rule}
use Rattle.bp_outside.specs.Folder.{FolderView}
use Rattle.bp_outside.specs.Source.{SourceView}
use Rattle.bp_outside.specs.declared.files.FileRow.{FileRow}
use Rattle.bp_matter.specs.Matter.{Matter}
use Rattle.bp_matter.specs.declared.rows.Production.{Production}
use Rattle.bp_press.specs.Pressed.{pressed_of}
use Rattle.bp_press.specs.Writing.{AddsPart, with_files}
use Rattle.bp_import.specs.Importing.{after_kind}
use Rattle.bp_claw.specs.NoticeFiles.{notice_of}
use Rattle.bp_claw.specs.Refusing.{replace_rule}
use Rattle.bp_claw.specs.Replacement.{replacement_of}
use Rattle.bp_claw.specs.declared.notices.Claim.{Claim}
use Rattle.bp_claw.specs.declared.refusals.ClawRefusal.{ClawRefusal}
use Rattle.bp_claw.specs.declared.refusals.ClawRefusal.TheVariants as claws
use Rattle.bp_cli.specs.declared.stops.Stop.{Stop}
use Rattle.bp_cli.specs.declared.stops.Stop.TheVariants as stops
use Rattle.bp_cli.specs.Claw.{replacement_line}
use Rattle.bp_cli.specs.Endings.{Ending, failed_folder, failed_source}
use Rattle.bp_cli.specs.NamedFiles.{NamedFileAnswers}

-- where a replacement stopped, the work stops
abbrev pub StopsForClaw : ClawRefusal → Stop → Type 0
StopsForClaw (claws.Rule rule) stop = stop ≡ stops.Broken rule
StopsForClaw claws.FolderFault stop = stop ≡ stops.FolderFault
StopsForClaw claws.OutOfMemory stop = stop ≡ stops.OutOfMemory

-- the file that a word names was read, or the work stopped
abbrev pub ReadsFile : List ℕ → SourceView → Result (List ℕ) Stop → SourceView → Type 0
ReadsFile named before (Ok bytes) after =
    NamedFileAnswers before.files named (Ok bytes) × (after ≡ before)
ReadsFile named before (Err (stops.Broken rule)) after =
    NamedFileAnswers before.files named (Err rule) × (after ≡ after_kind before rule.kind)
ReadsFile named before (Err stops.SourceFault) after = after ≡ failed_source before
ReadsFile named before (Err stops.OutOfMemory) after = after ≡ before
ReadsFile named before (Err stops.WordsRefused) after = ⊥
ReadsFile named before (Err stops.FolderFault) after = ⊥
ReadsFile named before (Err stops.KeeperFault) after = ⊥

-- memory ran out before a file was added; or, where no rule is broken, while files were, or for the
-- line, when all stood
pub data LacksToReplace (files : List FileRow) (broken : Option Rule) (before after : FolderView)
    : Type 0 where
  none_added : after ≡ before → LacksToReplace files broken before after
  some_added : broken ≡ None → AddsPart before files after
      → LacksToReplace files broken before after
  all_added : broken ≡ None → after ≡ with_files before files
      → LacksToReplace files broken before after

-- the replacement was put, and its line made; or the work stopped
abbrev pub PutsFiles : List ℕ → Production → List FileRow → Option Rule → FolderView → Ending
    → FolderView → Type 0
PutsFiles volume f files broken before (Ok line) after =
    (broken ≡ None) × (line ≡ replacement_line volume f (pressed_of files))
    × (after ≡ with_files before files)
PutsFiles volume f files broken before (Err (stops.Broken rule)) after =
    (broken ≡ Some rule) × (after ≡ before)
PutsFiles volume f files broken before (Err stops.FolderFault) after =
    (broken ≡ None) × AddsPart (failed_folder before) files after
PutsFiles volume f files broken before (Err stops.OutOfMemory) after =
    LacksToReplace files broken before after
PutsFiles volume f files broken before (Err stops.WordsRefused) after = ⊥
PutsFiles volume f files broken before (Err stops.SourceFault) after = ⊥
PutsFiles volume f files broken before (Err stops.KeeperFault) after = ⊥

-- the same by the notice
abbrev pub PutsReplacement : List ℕ → Matter → Production → List Claim → FolderView → Ending
    → FolderView → Type 0
PutsReplacement volume m f notice before ending after =
    PutsFiles volume f (replacement_of f notice volume m) (replace_rule m f volume notice) before
    ending after

-- a notice that breaks a rule stops the work, and leaves the folder
abbrev pub StopsAtNotice : Rule → FolderView → Ending → FolderView → Type 0
StopsAtNotice rule before (Ok line) after = ⊥
StopsAtNotice rule before (Err stop) after =
    ((stop ≡ stops.Broken rule) ⊎ (stop ≡ stops.OutOfMemory)) × (after ≡ before)

-- the same by the bytes of a notice
abbrev pub ReplacesBy : List ℕ → Matter → Production → Result (List Claim) Rule → FolderView
    → Ending → FolderView → Type 0
ReplacesBy volume m f (Ok notice) before ending after =
    PutsReplacement volume m f notice before ending after
ReplacesBy volume m f (Err rule) before ending after = StopsAtNotice rule before ending after

-- the same by the bytes of the file
abbrev pub ReplacesAfter : List ℕ → Matter → Production → List ℕ → FolderView → Ending
    → FolderView → Type 0
ReplacesAfter volume m f bytes before ending after =
    ReplacesBy volume m f (notice_of bytes) before ending after
