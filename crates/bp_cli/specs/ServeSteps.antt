-- What the steps of serve leave, one behind the other.
use Rattle.std.specs.Prelude.{ℕ, ◌≡◌, ◌≢◌, Option, Some, None, Ok, Err, List}
use Rattle.bp_core.specs.declared.kept.Row.{Row}
use Rattle.bp_book.specs.declared.history.Made.{Made}
use Rattle.bp_keep.specs.Keeper.{KeeperView}
use Rattle.bp_outside.specs.Door.{DoorView}
use Rattle.bp_outside.specs.Out.{OutView}
use Rattle.bp_rules.specs.Steps.{AtMostOnce}
use Rattle.bp_cli.specs.declared.serve.ServeLine.{ServeLine}
use Rattle.bp_cli.specs.declared.statuses.TheConstants.{OUT_OF_MEMORY}
use Rattle.bp_cli.specs.declared.stops.Stop.TheVariants as stops
use Rattle.bp_cli.specs.Endings.{Ending, RowsRead}
use Rattle.bp_cli.specs.Serve.{Hall, ServeEnds, hall, served_line, with_read}

-- what the work of serve leaves, over the rows of the keeper as it reads them
pub record ServesWith {D : Type 0} (shows : D → DoorView) (asked : ServeLine) (before : Hall D)
    (ending : Ending) (history : Option (List Made)) (after : Hall D) : Type 0 where
  pub read : Option (List Row)
  pub rows : RowsRead before.keeper.rows read after.keeper.rows
  pub ends : ServeEnds shows asked (with_read read before) ending history after
  pub loads : AtMostOnce before.keeper.loads after.keeper.loads

-- the same whatever is known of the out, which this work doesn't touch
abbrev pub ServesAnyhow : {D : Type 0} → (D → DoorView) → ServeLine → KeeperView → List D → Ending
    → Option (List Made) → KeeperView → List D → Type 0
ServesAnyhow shows asked given doors ending history left handed =
    (out out' : OutView)
    → ServesWith shows asked (hall given doors out) ending history (hall left handed out')

-- the history that is handed on is the one that was made, but where memory ran out
pub record HandsOn (status : ℕ) (made handed : Option (List Made)) : Type 0 where
  pub kept : status ≢ OUT_OF_MEMORY → handed ≡ made
  pub lost : status ≡ OUT_OF_MEMORY → handed ≡ None

-- the line of a history, and the history; or there was no memory for the line
abbrev pub SaysServed : List Made → Ending → Option (List Made) → Type 0
SaysServed history (Ok line) handed = (line ≡ served_line history) × (handed ≡ Some history)
SaysServed history (Err stops.OutOfMemory) handed = handed ≡ None
SaysServed history (Err (stops.Broken rule)) handed = ⊥
SaysServed history (Err stops.WordsRefused) handed = ⊥
SaysServed history (Err stops.SourceFault) handed = ⊥
SaysServed history (Err stops.FolderFault) handed = ⊥
SaysServed history (Err stops.KeeperFault) handed = ⊥
