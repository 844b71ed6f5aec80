-- How the work of a command ends, and what each ending leaves outside.
use Rattle.std.specs.Prelude.{ℕ, ◌≡◌, ◌⊎◌, Bool, true, false, Option, Some, None, Result, Ok, Err}
use Rattle.std.specs.Prelude.{List, [], ◌∷◌, ◌++◌, codes, is_some, IfSome, IsTrue}
use Rattle.bp_core.specs.declared.kept.Row.{Row}
use Rattle.bp_core.specs.declared.rules.Rule.{Rule}
use Rattle.bp_core.specs.declared.rules.RuleKind.{RuleKind}
use Rattle.bp_core.specs.declared.rules.RuleKind.TheVariants as kinds
use Rattle.bp_core.specs.Characters.{newline}
use Rattle.bp_core.specs.Rules.{rule_text}
use Rattle.bp_outside.specs.Counts.{risen}
use Rattle.bp_outside.specs.Source.{SourceView}
use Rattle.bp_outside.specs.Folder.{FolderView}
use Rattle.bp_outside.specs.declared.files.FileRow.{FileRow}
use Rattle.bp_import.specs.Importing.{after_kind}
use Rattle.bp_keep.specs.Keeper.{KeeperView, SameRows}
use Rattle.bp_rules.specs.Steps.{AtMostOnce}
use Rattle.bp_press.specs.Writing.{AddsPart, with_files}
use Rattle.bp_cli.specs.declared.stops.Stop.{Stop}
use Rattle.bp_cli.specs.declared.stops.Stop.TheVariants as stops
use Rattle.bp_cli.specs.declared.statuses.TheConstants.{DONE, WORDS_REFUSED, RULE_BROKEN}
use Rattle.bp_cli.specs.declared.statuses.TheConstants.{SOURCE_FAULT, FOLDER_FAULT, KEEPER_FAULT}
use Rattle.bp_cli.specs.declared.statuses.TheConstants.{OUT_OF_MEMORY}

-- what a command comes to: a line to print, files to add, and the kept rows that then stand, where
-- it keeps any; or the first rule that it breaks
pub data Outcome : Type 0 where
  done : List ℕ → List FileRow → Option (List Row) → Outcome
  refused : Rule → Outcome

-- how its work ends: with the line, or where it stopped
abbrev pub Ending : Type 0
Ending = Result (List ℕ) Stop

-- the status of an ending
abbrev pub status_of : Ending → ℕ
status_of (Ok line) = DONE
status_of (Err stops.WordsRefused) = WORDS_REFUSED
status_of (Err (stops.Broken rule)) = RULE_BROKEN
status_of (Err stops.SourceFault) = SOURCE_FAULT
status_of (Err stops.FolderFault) = FOLDER_FAULT
status_of (Err stops.KeeperFault) = KEEPER_FAULT
status_of (Err stops.OutOfMemory) = OUT_OF_MEMORY

-- a text with the end of its line
abbrev pub line_of : List ℕ → List ℕ
line_of text = text ++ newline ∷ []

-- what is printed where memory ran out
abbrev pub memory_line : List ℕ
memory_line = line_of (codes "out of memory")

-- what is printed of a rule
abbrev pub refused_line : Rule → List ℕ
refused_line rule = line_of (codes "refused " ++ rule_text rule)

-- what is printed
abbrev pub ending_text : Ending → List ℕ
ending_text (Ok line) = line
ending_text (Err stops.WordsRefused) = line_of (codes "words refused")
ending_text (Err (stops.Broken rule)) = refused_line rule
ending_text (Err stops.SourceFault) = line_of (codes "source fault")
ending_text (Err stops.FolderFault) = line_of (codes "folder fault")
ending_text (Err stops.KeeperFault) = line_of (codes "keeper fault")
ending_text (Err stops.OutOfMemory) = memory_line

-- ---- what is left

-- what is known of all that the work of a command touches
pub record World : Type 0 where
  pub source : SourceView
  pub keeper : KeeperView
  pub folder : FolderView

-- source, keeper and folder in one
abbrev pub world : SourceView → KeeperView → FolderView → World
world source keeper folder = record { source = source; keeper = keeper; folder = folder }

-- the rows as a command read them: those from before, where they were told then. They are known
-- where the keeper tells rows as the command ends
pub record RowsRead (before read after : Option (List Row)) : Type 0 where
  pub same : SameRows before read
  pub told : IfSome after (λ _. IsTrue (is_some read))

-- what is known, with the rows as they were read
abbrev pub world_with_rows : Option (List Row) → World → World
world_with_rows read w = record w { keeper = record w.keeper { rows = read } }

-- which inputs a command uses: the files of the source, and the rows of the keeper; and whether it may
-- commit rows
pub record Uses : Type 0 where
  pub files : Bool
  pub rows : Bool
  pub commits : Bool

-- a count rose once at most, or not at all
abbrev pub RisesIf : Bool → ℕ → ℕ → Type 0
RisesIf true before now = AtMostOnce before now
RisesIf false before now = now ≡ before

-- a command asks the keeper once for its rows at most, and commits once at most
pub record CallsKeeper (uses : Uses) (before after : KeeperView) : Type 0 where
  pub loads : RisesIf uses.rows before.loads after.loads
  pub commits : RisesIf uses.commits before.commits after.commits

-- the source and the folder after a fault
abbrev pub failed_source : SourceView → SourceView
failed_source source = record source { faults = risen source.faults }

-- the folder after a fault
abbrev pub failed_folder : FolderView → FolderView
failed_folder folder = record folder { faults = risen folder.faults }

-- where rows are told afterwards, they are these; or, of no rows, those from before
abbrev pub RowsLeft : Option (List Row) → Option (List Row) → Option (List Row) → Type 0
RowsLeft None before after = SameRows before after
RowsLeft (Some rows) before after = IfSome after (λ now. now ≡ rows)

-- the keeper has these rows, or its own, and so many faults
pub record KeeperLeft (kept : Option (List Row)) (count : ℕ) (before after : KeeperView)
    : Type 0 where
  pub rows : RowsLeft kept before.rows after.rows
  pub faults : after.faults ≡ count
  pub sure : after.sure ≡ before.sure

-- Below, Comes says which outcomes the command may come to.

-- the rows and the files of the outcome stand, and nothing else changed
pub record AddsFiles (Comes : Outcome → Type 0) (before : World) (line : List ℕ)
    (after : World) : Type 0 where
  pub files : List FileRow
  pub rows : Option (List Row)
  pub outcome : Comes (done line files rows)
  pub source : after.source ≡ before.source
  pub keeper : KeeperLeft rows before.keeper.faults before.keeper after.keeper
  pub folder : after.folder ≡ with_files before.folder files

-- the outcome was this rule, and nothing changed but the count that the rule comes from; nothing
-- was committed
pub record MeetsRule (uses : Uses) (Comes : Outcome → Type 0) (before : World) (rule : Rule)
    (after : World) : Type 0 where
  pub outcome : Comes (refused rule)
  pub source : after.source ≡ after_kind before.source rule.kind
  pub keeper : KeeperLeft None before.keeper.faults before.keeper after.keeper
  pub quiet : after.keeper.commits ≡ before.keeper.commits
  pub folder : after.folder ≡ before.folder

-- the source, which the command uses, failed, and nothing else changed
pub record FailsToRead (uses : Uses) (before after : World) : Type 0 where
  pub used : IsTrue uses.files
  pub source : after.source ≡ failed_source before.source
  pub keeper : KeeperLeft None before.keeper.faults before.keeper after.keeper
  pub folder : after.folder ≡ before.folder

-- the keeper, which the command uses, failed, and nothing else changed
pub record FailsToKeep (uses : Uses) (before after : World) : Type 0 where
  pub used : IsTrue uses.rows
  pub source : after.source ≡ before.source
  pub keeper : KeeperLeft None (risen before.keeper.faults) before.keeper after.keeper
  pub folder : after.folder ≡ before.folder

-- the folder failed, and has a part of the files of the outcome, whose rows stand
pub record FailsToAdd (Comes : Outcome → Type 0) (before after : World) : Type 0 where
  pub line : List ℕ
  pub files : List FileRow
  pub rows : Option (List Row)
  pub outcome : Comes (done line files rows)
  pub source : after.source ≡ before.source
  pub keeper : KeeperLeft rows before.keeper.faults before.keeper after.keeper
  pub folder : AddsPart (failed_folder before.folder) files after.folder

-- memory ran out before rows were kept and a file was begun; or between the two; or while files
-- were added; or for the line, when all stood
pub data LacksMemory (uses : Uses) (Comes : Outcome → Type 0) (before after : World) : Type 0 where
  untouched : after.source ≡ before.source
      → KeeperLeft None before.keeper.faults before.keeper after.keeper
      → after.folder ≡ before.folder
      → LacksMemory uses Comes before after
  kept : (line : List ℕ) (files : List FileRow) (rows : Option (List Row))
      → Comes (done line files rows)
      → after.source ≡ before.source
      → KeeperLeft rows before.keeper.faults before.keeper after.keeper
      → after.folder ≡ before.folder
      → LacksMemory uses Comes before after
  partly : (line : List ℕ) (files : List FileRow) (rows : Option (List Row))
      → Comes (done line files rows)
      → after.source ≡ before.source
      → KeeperLeft rows before.keeper.faults before.keeper after.keeper
      → AddsPart before.folder files after.folder
      → LacksMemory uses Comes before after
  wholly : (line : List ℕ) (files : List FileRow) (rows : Option (List Row))
      → Comes (done line files rows)
      → after.source ≡ before.source
      → KeeperLeft rows before.keeper.faults before.keeper after.keeper
      → after.folder ≡ with_files before.folder files
      → LacksMemory uses Comes before after

-- what the work of a command leaves, by how it ended
abbrev pub Ends : Uses → (Outcome → Type 0) → World → Ending → World → Type 0
Ends uses Comes before (Ok line) after = AddsFiles Comes before line after
Ends uses Comes before (Err stops.WordsRefused) after = ⊥
Ends uses Comes before (Err (stops.Broken rule)) after = MeetsRule uses Comes before rule after
Ends uses Comes before (Err stops.SourceFault) after = FailsToRead uses before after
Ends uses Comes before (Err stops.FolderFault) after = FailsToAdd Comes before after
Ends uses Comes before (Err stops.KeeperFault) after = FailsToKeep uses before after
Ends uses Comes before (Err stops.OutOfMemory) after = LacksMemory uses Comes before after
