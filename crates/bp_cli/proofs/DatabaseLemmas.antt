-- What closing a database left of its files.
use Rattle.std.proofs.Common.{Result, Ok, Err, IfOk}
use Rattle.std.specs.Prelude.{IfErr}
use Rattle.sqlite_disk.specs.declared.Disk.{Ghosts}
use Rattle.sqlite_disk.specs.declared.Files.{Files}
use Rattle.sqlite_store.specs.FileStore.{view}
use Rattle.sqlite_store.specs.declared.store.FileStore.{FileStore}
use Rattle.sqlite_trees.specs.View.{IsClean}
use Rattle.sqlite.specs.Files.{FailsToClose, IsClosed}
use Rattle.sqlite.specs.Held.{Held}
use Rattle.sqlite.specs.declared.error.Error.{Error}
use Rattle.bp_keep_sql.specs.Files.{Closes}
use Rattle.bp_cli.specs.Database.{LeavesFiles}

pub leaves_files : {D : Type 0} {g : Ghosts D} (c : Held (FileStore D g))
    (result : Result (Files D) (Error × FileStore D g))
    → IfOk result (Closes c)
    → IfErr result (λ e. IsClosed c e.1 × (IsClean (view e.1) → FailsToClose c e.1 e.0))
    → LeavesFiles c result
leaves_files c (Ok files) kept refused = kept
leaves_files c (Err (error, left)) kept refused = refused
