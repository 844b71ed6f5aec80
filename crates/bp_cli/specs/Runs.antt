-- What a run of the program promises.
use Rattle.std.specs.Prelude.{ℕ, ◌≡◌, ◌≢◌, ◌==◌, ◌⊎◌, Bool, true, false}
use Rattle.std.specs.Prelude.{Option, Some, None, Ok, Err, List, [], ◌∷◌, IsTrue}
use Rattle.std.specs.List.{list_any}
use Rattle.bp_core.specs.declared.kept.Row.{Row}
use Rattle.bp_core.specs.declared.rules.Rule.{Rule}
use Rattle.bp_outside.specs.Counts.{Rose}
use Rattle.bp_outside.specs.Source.{SourceView}
use Rattle.bp_outside.specs.Folder.{FolderView}
use Rattle.bp_outside.specs.Out.{OutView, with_written, OutWritesPrefix}
use Rattle.bp_outside.specs.declared.files.FileRow.{FileRow}
use Rattle.bp_keep.specs.Keeper.{KeeperView}
use Rattle.bp_cli.specs.declared.stops.Stop.TheVariants as stops
use Rattle.bp_cli.specs.declared.statuses.TheConstants.{DONE, WORDS_REFUSED, RULE_BROKEN}
use Rattle.bp_cli.specs.declared.statuses.TheConstants.{SOURCE_FAULT, FOLDER_FAULT, KEEPER_FAULT}
use Rattle.bp_cli.specs.declared.statuses.TheConstants.{OUT_OF_MEMORY, OUT_FAULT}
use Rattle.bp_cli.specs.Endings as outcomes
use Rattle.bp_press.specs.Writing.{AddsPart, with_files}
use Rattle.bp_cli.specs.Endings.{Outcome, Ending, World, world, Uses, RowsLeft}
use Rattle.bp_cli.specs.Endings.{status_of, ending_text, failed_folder, memory_line, refused_line}
use Rattle.bp_cli.specs.Commands.{CommandLine, Inputs, uses_of, uses_by, ComesTo, AreKnown, AlikeFor}
use Rattle.bp_cli.specs.Commands.{ShowAlike, Works, ReadsRows}
use Rattle.bp_cli.specs.Printing.{failed_out, MayLackItsLine, WritesPart}

-- what is known of all that is outside, at a moment
pub record Outside : Type 0 where
  pub world : World
  pub out : OutView

-- source, keeper, folder and out in one
abbrev pub outside : SourceView → KeeperView → FolderView → OutView → Outside
outside s k f o = record { world = world s k f; out = o }

-- ---- words of the promises

-- what is used is told, and is this; of what isn't used nothing is asked
abbrev pub Tells : {T : Type 0} → Bool → Option T → T → Type 0
Tells true told value = told ≡ Some value
Tells false told value = Unit {0}

-- the words are this command, and the outside tells these inputs, as far as the command uses them
pub record AsksCommand (command : Option CommandLine) (before : Outside)
    (c : CommandLine) (inputs : Inputs) : Type 0 where
  pub words : command ≡ Some c
  pub files : Tells (uses_of c).files before.world.source.files inputs.files
  pub rows : Tells (uses_of c).rows before.world.keeper.rows inputs.rows

-- a count of faults rose in between
abbrev pub SourceFaultRose : Outside → Outside → Type 0
SourceFaultRose before after = Rose before.world.source.faults after.world.source.faults

-- the keeper's count of faults rose
abbrev pub KeeperFaultRose : Outside → Outside → Type 0
KeeperFaultRose before after = Rose before.world.keeper.faults after.world.keeper.faults

-- the folder's count of faults rose
abbrev pub FolderFaultRose : Outside → Outside → Type 0
FolderFaultRose before after = Rose before.world.folder.faults after.world.folder.faults

-- the out's count of faults rose
abbrev pub OutFaultRose : Outside → Outside → Type 0
OutFaultRose before after = Rose before.out.faults after.out.faults

-- no input that is used failed
pub record InputsServed (uses : Uses) (before after : Outside) : Type 0 where
  pub source : IsTrue uses.files → ¬ SourceFaultRose before after
  pub keeper : IsTrue uses.rows → ¬ KeeperFaultRose before after

-- and neither the folder nor the out
pub record NoneFailed (uses : Uses) (before after : Outside) : Type 0 where
  pub inputs : InputsServed uses before after
  pub folder : ¬ FolderFaultRose before after
  pub out : ¬ OutFaultRose before after

-- no object that is used can fail
pub record AreSure (uses : Uses) (before : Outside) : Type 0 where
  pub source : IsTrue uses.files → before.world.source.sure ≡ true
  pub keeper : IsTrue uses.rows → before.world.keeper.sure ≡ true
  pub folder : before.world.folder.sure ≡ true
  pub out : before.out.sure ≡ true

-- the work ended so, and its text was printed whole
pub record WorkEnded (command : Option CommandLine) (before after : Outside)
    (ending : Ending) : Type 0 where
  pub worked : Works command before.world ending after.world
  pub printed : after.out ≡ with_written before.out (ending_text ending)

-- a prefix of the text of an ending was printed, or of the line that says that memory ran out where
-- the ending's own line may have lacked it
pub data PrintsPart (ending : Ending) (out after : OutView) : Type 0 where
  own : OutWritesPrefix out (ending_text ending) after → PrintsPart ending out after
  instead : MayLackItsLine (status_of ending) → WritesPart memory_line out after
      → PrintsPart ending out after

-- memory ran out, in the work or in printing
pub record RanShort (command : Option CommandLine) (before after : Outside) : Type 0 where
  pub ending : Ending
  pub worked : Works command before.world ending after.world
  pub printed : PrintsPart ending before.out after.out

-- the out failed: all but what was printed is as the ending says
pub record OutWasCut (command : Option CommandLine) (before after : Outside) : Type 0 where
  pub ending : Ending
  pub worked : Works command before.world ending after.world
  pub other : status_of ending ≢ OUT_OF_MEMORY
  pub failed : OutFaultRose before after
  pub printed : OutWritesPrefix (failed_out before.out) (ending_text ending) after.out

-- the folder got these files, these rows are kept, or those from before, and this text was printed
pub record LeavesOutside (added : List FileRow) (kept : Option (List Row)) (text : List ℕ)
    (before after : Outside) : Type 0 where
  pub files : after.world.folder ≡ with_files before.world.folder added
  pub rows : RowsLeft kept before.world.keeper.rows after.world.keeper.rows
  pub printed : after.out ≡ with_written before.out text

-- folder, keeper and out got what the outcome says, and nothing else
abbrev pub GivesOutcome : Outcome → Outside → Outside → Type 0
GivesOutcome (outcomes.done line files rows) before after =
    LeavesOutside files rows line before after
GivesOutcome (outcomes.refused rule) before after =
    LeavesOutside [] None (refused_line rule) before after

-- the status of an outcome
abbrev pub outcome_status : Outcome → ℕ
outcome_status (outcomes.done line files rows) = DONE
outcome_status (outcomes.refused rule) = RULE_BROKEN

-- a number is in a list
abbrev pub IsAmong : ℕ → List ℕ → Type 0
IsAmong n ns = IsTrue (list_any (λ m. m == n) ns)

-- what came out is an outcome of these inputs, and shows the same as that one of others
pub record GivesAlike (c : CommandLine) (inputs : Inputs) (other : Outcome)
    (before after : Outside) : Type 0 where
  pub outcome : Outcome
  pub comes : ComesTo c inputs outcome
  pub same : ShowAlike c outcome other
  pub gives : GivesOutcome outcome before after

-- the files of an outcome; a rule has none
abbrev pub outcome_files : Outcome → List FileRow
outcome_files (outcomes.done line files rows) = files
outcome_files (outcomes.refused rule) = []

-- a folder got none of these files; or some, and a part of the next; or all
pub data GetsFirst (before : FolderView) (files : List FileRow)
    (after : FolderView) : Type 0 where
  nothing_added : after ≡ before → GetsFirst before files after
  part_added : AddsPart before files after → GetsFirst before files after
  all_added : after ≡ with_files before files → GetsFirst before files after

-- the folder got a first part of these files, whether or not it failed, and nothing else
pub record GivesFirst (files : List FileRow) (before after : FolderView) : Type 0 where
  pub folder : FolderView
  pub failed : (folder ≡ before) ⊎ (folder ≡ failed_folder before)
  pub adds : GetsFirst folder files after

-- there is an outcome, and the status is its own, or that memory ran out
pub record Completes (c : CommandLine) (inputs : Inputs) (status : ℕ) : Type 0 where
  pub outcome : Outcome
  pub comes : ComesTo c inputs outcome
  pub among : IsAmong status (outcome_status outcome ∷ OUT_OF_MEMORY ∷ [])

-- the eight statuses
abbrev pub all_statuses : List ℕ
all_statuses =
    DONE ∷ WORDS_REFUSED ∷ RULE_BROKEN ∷ SOURCE_FAULT ∷ FOLDER_FAULT
    ∷ KEEPER_FAULT ∷ OUT_OF_MEMORY ∷ OUT_FAULT ∷ []

-- ---- the promises

-- what a run promises, where the rows from before are those that it read
pub record Promises (command : Option CommandLine) (before after : Outside)
    (status : ℕ) : Type 0 where
  -- there are no other statuses
  pub known : IsAmong status all_statuses
  -- ---- what each status says of source, keeper, folder and what was printed

  pub done : status ≡ DONE
      → (line : List ℕ) × WorkEnded command before after (Ok line)
  pub words_refused : status ≡ WORDS_REFUSED
      → (command ≡ None) × WorkEnded command before after (Err stops.WordsRefused)
  pub refused : status ≡ RULE_BROKEN
      → (rule : Rule) × WorkEnded command before after (Err (stops.Broken rule))
  pub source_fault : status ≡ SOURCE_FAULT
      → SourceFaultRose before after × WorkEnded command before after (Err stops.SourceFault)
  pub folder_fault : status ≡ FOLDER_FAULT
      → FolderFaultRose before after × WorkEnded command before after (Err stops.FolderFault)
  pub keeper_fault : status ≡ KEEPER_FAULT
      → KeeperFaultRose before after × WorkEnded command before after (Err stops.KeeperFault)
  pub lacking : status ≡ OUT_OF_MEMORY
      → RanShort command before after
  pub cut : status ≡ OUT_FAULT
      → OutWasCut command before after
  -- ---- when a status comes

  -- words that are no command give 1, but for want of memory and faults of the out
  pub no_command : command ≡ None
      → IsAmong status (WORDS_REFUSED ∷ OUT_OF_MEMORY ∷ OUT_FAULT ∷ [])
  -- a rule that is met over told inputs gives 2, but for want of memory and faults of what the
  -- command uses and of the out
  pub rule_met : (c : CommandLine) (inputs : Inputs) (rule : Rule)
      → AsksCommand command before c inputs
      → ComesTo c inputs (outcomes.refused rule)
      → InputsServed (uses_of c) before after
      → IsAmong status (RULE_BROKEN ∷ OUT_OF_MEMORY ∷ OUT_FAULT ∷ [])
  -- completeness: over told inputs, where nothing failed, the status is that of the outcome, or 6
  pub complete : (c : CommandLine) (inputs : Inputs)
      → AsksCommand command before c inputs
      → AreKnown c inputs
      → NoneFailed (uses_of c) before after
      → Completes c inputs status
  -- objects that can't fail give no fault
  pub unfailing : AreSure (uses_by command) before
      → IsAmong status (DONE ∷ WORDS_REFUSED ∷ RULE_BROKEN ∷ OUT_OF_MEMORY ∷ [])
  -- ---- two matters

  -- what comes out shows the same as the outcome of all other inputs that differ only in what the
  -- command withholds: the same line and the same files, or the same rule; and after `produce` both
  -- keep the same production
  pub alike : (c : CommandLine) (inputs inputs' : Inputs) (other : Outcome)
      → AsksCommand command before c inputs
      → AlikeFor c inputs inputs'
      → ComesTo c inputs' other
      → (status ≡ DONE) ⊎ (status ≡ RULE_BROKEN)
      → GivesAlike c inputs other before after
  -- and whatever the status is, also where a fault or want of memory cut the work: what the folder
  -- got is a first part of the files of each such outcome
  pub alike_part : (c : CommandLine) (inputs inputs' : Inputs) (other : Outcome)
      → AsksCommand command before c inputs
      → AlikeFor c inputs inputs'
      → ComesTo c inputs' other
      → GivesFirst (outcome_files other) before.world.folder after.world.folder

-- and it promises this over the rows of the keeper as it reads them
abbrev pub RunsOverRows : Option CommandLine → Outside → Outside → ℕ → Type 0
RunsOverRows command before after status =
    ReadsRows (uses_by command)
    (λ known. Promises command (record before { world = known }) after status)
    before.world after.world
