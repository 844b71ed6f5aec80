-- The program over the two files of its database: what they kept as it began, and what they keep as it
-- ended.
use Rattle.std.specs.Prelude.{◌≡◌, true, Option, Some, None, Result, Ok, Err, IfErr, IfOk, IsTrue, ℕ, Vec}
use Rattle.std.specs.declared.alloc.Global.{Global}
use Rattle.sqlite_disk.specs.declared.Disk.{Ghosts}
use Rattle.sqlite_disk.specs.declared.Files.{Files}
use Rattle.sqlite_store.specs.FileStore.{view}
use Rattle.sqlite_store.specs.declared.store.FileStore.{FileStore}
use Rattle.sqlite_trees.specs.View.{IsClean}
use Rattle.sqlite_wal.specs.Recovery.{Image}
use Rattle.sqlite.specs.Files.{FailsToClose, IsBlankAs, IsClosed, IsOpened, file_state, over_files}
use Rattle.sqlite.specs.Held.{Held}
use Rattle.sqlite.specs.Opening.{is_open_error}
use Rattle.sqlite.specs.State.{HasCleanDisk}
use Rattle.sqlite.specs.declared.error.Error.{Error}
use Rattle.bp_core.specs.declared.refusals.OutOfMemory.{OutOfMemory}
use Rattle.bp_keep_sql.specs.Files.{Closes, TellsOf}
use Rattle.bp_keep_sql.specs.Told.{rows_told}
use Rattle.bp_outside.specs.Door.{DoorView}
use Rattle.bp_cli.specs.Arguments.{Answer, EndsOpened}

module _ {D : Type 0} {g : Ghosts D} where
  -- A database was opened over files that held this: it tells the rows that they keep. Where nothing
  -- was there, each page of the new file has a sum.
  pub record OpensOver (image : Image) (c : Held (FileStore D g)) : Type 0 where
    pub opened : HasCleanDisk (file_state c) → IsOpened c
    pub told : HasCleanDisk (file_state c) → TellsOf image (rows_told (file_state c))
    pub sums : HasCleanDisk (file_state c) → IsBlankAs true image → (view c.store).has_sums ≡ true

  -- it was closed over its files, which keep the rows that it told last; or the log couldn't be copied
  abbrev pub LeavesFiles : Held (FileStore D g) → Result (Files D) (Error × FileStore D g) → Type 0
  LeavesFiles c (Ok files) = Closes c files
  LeavesFiles c (Err (error, left)) =
      IsClosed c left × (IsClean (view left) → FailsToClose c left error)

  -- the same, if there was one
  abbrev pub ClosesAfter : Option (Held (FileStore D g))
      → Option (Result (Files D) (Error × FileStore D g)) → Type 0
  ClosesAfter None None = Unit {0}
  ClosesAfter None (Some left) = ⊥
  ClosesAfter (Some c) None = ⊥
  ClosesAfter (Some c) (Some left) = LeavesFiles c left

  -- The program ends over files that held this: by a run over the database that was opened over them,
  -- which was then closed; or it says that they couldn't be opened.
  pub record EndsFiles {E : Type 0} (image : Image) (shows : E → DoorView) (answer : Answer)
      (doors : Result (Vec E Global) OutOfMemory)
      (left : Option (Result (Files D) (Error × FileStore D g))) (status : ℕ) : Type 0 where
    pub opened : Result (Held (FileStore D g)) Error
    pub opens : IfOk opened (OpensOver image)
    pub named : IfErr opened (λ e. IsTrue (is_open_error e))
    pub handed : Option (Held (FileStore D g))
    pub ends : EndsOpened over_files shows answer opened doors handed status
    pub closes : ClosesAfter handed left
