-- Two files that keep rows: a database file and its log.
use Rattle.std.specs.Prelude.{◌≡◌, ◌⊎◌, List, [], Option, Some, IfSome, IsTrue}
use Rattle.sqlite_disk.specs.declared.Disk.{Ghosts}
use Rattle.sqlite_disk.specs.declared.Files.{Files}
use Rattle.sqlite_wal.specs.Recovery.{Image}
use Rattle.sqlite_wal.specs.Files.{outcomes}
use Rattle.sqlite_wal.specs.Reads.{AreClean}
use Rattle.sqlite_trees.specs.Tree.{Trees}
use Rattle.sqlite_store.specs.declared.store.FileStore.{FileStore}
use Rattle.sqlite_catalog.specs.Listing.{IsSound}
use Rattle.sqlite.specs.Held.{Held}
use Rattle.sqlite.specs.State.{State, HasCleanDisk}
use Rattle.sqlite.specs.Files.{AreFoundIn, HoldsDatabase, file_state, image_of}
use Rattle.bp_core.specs.declared.kept.Row.{Row}
use Rattle.bp_keep_sql.specs.Table.{kept_schema, no_schema}
use Rattle.bp_keep_sql.specs.Lines.{kept_rows}
use Rattle.bp_keep_sql.specs.Told.{rows_told}

-- these trees are a database that keeps these rows: it has no table, and they are none; or it has the
-- table alone, as its text defines it, and they are the lines of it
abbrev pub AreOfRows : Trees → List Row → Type 0
AreOfRows db rows =
    (IsSound no_schema db × (rows ≡ [])) ⊎ (IsSound kept_schema db × (rows ≡ kept_rows (db 0)))

-- whatever an open after a crash at this moment may find is a database that keeps the rows from before,
-- or those from after
abbrev pub LeavesRows : State → List Row → List Row → Type 0
LeavesRows s before after =
    (db : Trees) → s.may_leave db → AreOfRows db before ⊎ AreOfRows db after

-- a database file and its log that held this recover to a database that keeps these rows
pub record FilesKeep (image : Image) (rows : List Row) : Type 0 where
  pub db : Trees
  pub held : HoldsDatabase image db
  pub of_rows : AreOfRows db rows

-- and so does the database file where the log is lost
pub record FilesKeepAlone (image : Image) (rows : List Row) : Type 0 where
  pub both : ∥ FilesKeep image rows ∥₁
  pub alone : ∥ FilesKeep (record image { log = [] }) rows ∥₁

-- what a keeper tells that was just opened over files that held this: the rows that these keep, and
-- no others
pub record TellsOf (image : Image) (told : Option (List Row)) : Type 0 where
  pub kept : (rows : List Row) → FilesKeep image rows → told ≡ Some rows
  pub no_others : IfSome told (λ rows. (db : Trees) × AreFoundIn image db × AreOfRows db rows)

-- what a keeper tells that is opened later goes on from what one told before: the same rows
abbrev pub GoesOnFrom : Option (List Row) → Option (List Row) → Type 0
GoesOnFrom last told = IfSome last (λ rows. ∥ told ≡ Some rows ∥₁)

-- what a keeper tells that is opened over what a stop left: the rows from before, or those from after
abbrev pub TellsEither : List Row → List Row → Option (List Row) → Type 0
TellsEither before after told = ∥ (told ≡ Some before) ⊎ (told ≡ Some after) ∥₁

-- the disk of this connection was clean, it was open, and the files keep the rows that a keeper over
-- it tells, as they read and after a crash
pub record ClosedOver {D : Type 0} {g : Ghosts D} (c : Held (FileStore D g)) (files : Files D)
    : Type 0 where
  pub was_clean : HasCleanDisk (file_state c)
  pub was_open : IsTrue (file_state c).is_open
  pub seen : IfSome (rows_told (file_state c)) (FilesKeepAlone (image_of g files))
  pub left : IfSome (rows_told (file_state c)) (λ rows.
      (image : Image) → outcomes g files.log files.db image → FilesKeepAlone image rows)

-- so it is where the files have returned what was written, to the end
abbrev pub Closes : {D : Type 0} {g : Ghosts D} → Held (FileStore D g) → Files D → Type 0
Closes {D} {g} c files = AreClean g files.log files.db → ClosedOver c files
