-- What the steps of deliver leave, one behind the other.
use Rattle.std.specs.Prelude.{ℕ, ◌≡◌, ◌<◌, ◌≤◌, ◌^◌, Option, List, length, Result, Ok, Err}
use Rattle.bp_core.specs.declared.kept.Row.{Row}
use Rattle.bp_core.specs.declared.rules.Rule.{Rule}
use Rattle.bp_import.specs.Importing.{after_kind}
use Rattle.bp_keep.specs.Keeper.{KeeperView}
use Rattle.bp_outside.specs.Door.{DoorView}
use Rattle.bp_outside.specs.Out.{OutView}
use Rattle.bp_outside.specs.Source.{SourceView}
use Rattle.bp_receiver.specs.GrantFiles.{grants_in}
use Rattle.bp_receiver.specs.declared.grants.Grant.{Grant}
use Rattle.bp_rules.specs.Steps.{AtMostOnce}
use Rattle.bp_cli.specs.declared.stops.Stop.{Stop}
use Rattle.bp_cli.specs.declared.stops.Stop.TheVariants as stops
use Rattle.bp_cli.specs.Deliver.{DeliverAsked, DeliverEnds, Office, office, grant_records, with_opened}
use Rattle.bp_cli.specs.Endings.{Ending, RowsRead, failed_source}
use Rattle.bp_cli.specs.NamedFiles.{NamedFileAnswers}

-- ---- the file of grants

-- the records of bytes, or the rule that they break
abbrev pub HoldsGrants : List ℕ → Result (List Grant) Stop → Type 0
HoldsGrants bytes (Ok rows) = (grants_in bytes ≡ Ok rows) × (length rows ≤ length bytes)
HoldsGrants bytes (Err (stops.Broken rule)) = grants_in bytes ≡ Err rule
HoldsGrants bytes (Err stops.OutOfMemory) = Unit {0}
HoldsGrants bytes (Err stops.WordsRefused) = ⊥
HoldsGrants bytes (Err stops.SourceFault) = ⊥
HoldsGrants bytes (Err stops.FolderFault) = ⊥
HoldsGrants bytes (Err stops.KeeperFault) = ⊥

-- a file answers so, and its records so; the source is left so
pub record RecordsRead (named : List ℕ) (given : SourceView) (answer : Result (List Grant) Rule)
    (due after : SourceView) : Type 0 where
  pub file : Result (List ℕ) Rule
  pub found : NamedFileAnswers given.files named file
  pub records : grant_records file ≡ answer
  pub source : after ≡ due

-- the records of the file that a word names were read; or the rule was met that this breaks
abbrev pub ReadsGrants : List ℕ → SourceView → Result (List Grant) Stop → SourceView → Type 0
ReadsGrants named source (Ok rows) after =
    RecordsRead named source (Ok rows) source after × (length rows < 2 ^ 32)
ReadsGrants named source (Err (stops.Broken rule)) after =
    RecordsRead named source (Err rule) (after_kind source rule.kind) after
ReadsGrants named source (Err stops.SourceFault) after = after ≡ failed_source source
ReadsGrants named source (Err stops.OutOfMemory) after = after ≡ source
ReadsGrants named source (Err stops.WordsRefused) after = ⊥
ReadsGrants named source (Err stops.FolderFault) after = ⊥
ReadsGrants named source (Err stops.KeeperFault) after = ⊥

-- ---- the work

-- what the work of deliver leaves, over the rows of the keeper as it reads them
pub record DeliversWith (asked : DeliverAsked) (before : Office) (ending : Ending) (after : Office)
    : Type 0 where
  pub read : Option (List Row)
  pub rows : RowsRead before.keeper.rows read after.keeper.rows
  pub ends : DeliverEnds asked (with_opened read before) ending after
  pub loads : AtMostOnce before.keeper.loads after.keeper.loads

-- what is known of what the work touches
pub record Touched : Type 0 where
  pub source : SourceView
  pub keeper : KeeperView
  pub door : DoorView

-- the three in one
abbrev pub touched : SourceView → KeeperView → DoorView → Touched
touched source keeper door = record { source = source; keeper = keeper; door = door }

-- the same whatever is known of the out, which this work doesn't touch
abbrev pub DeliversAnyhow : DeliverAsked → Touched → Ending → Touched → Type 0
DeliversAnyhow asked given ending handed =
    (out out' : OutView)
    → DeliversWith asked (office given.source given.keeper given.door out) ending
    (office handed.source handed.keeper handed.door out')
