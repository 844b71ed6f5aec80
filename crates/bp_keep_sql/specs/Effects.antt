-- What a call leaves of a database. Of a disk that is in doubt, or of a connection that is shut,
-- nothing is said.
use Rattle.std.specs.Prelude.{◌≡◌, ◌≤◌, false, IsTrue}
use Rattle.sqlite_trees.specs.View.{doubt}
use Rattle.sqlite.specs.State.{State, HasCleanDisk}
use Rattle.bp_keep_sql.specs.Table.{kept_schema}

-- the database is as before: the same definitions, and the same lines; no transaction was begun, and
-- none that was open is ended
pub record Leaves (old new : State) : Type 0 where
  pub clean : doubt old.is_clean ≤ doubt new.is_clean
  pub mode : HasCleanDisk new → old.in_transaction ≡ false → new.in_transaction ≡ false
  pub outside : new.in_transaction ≡ false → old.in_transaction ≡ false
  pub was_open : HasCleanDisk new → IsTrue new.is_open → IsTrue old.is_open
  pub same : HasCleanDisk new → IsTrue new.is_open → new.now ≡ old.now

-- the same where the table is there alone, as its text defines it
pub record KeepsTable (old new : State) : Type 0 where
  pub clean : doubt old.is_clean ≤ doubt new.is_clean
  pub mode : HasCleanDisk new → old.in_transaction ≡ false → new.in_transaction ≡ false
  pub was_open : HasCleanDisk new → IsTrue new.is_open → old.now.schema ≡ kept_schema
      → IsTrue old.is_open
  pub same : HasCleanDisk new → IsTrue new.is_open → old.now.schema ≡ kept_schema
      → new.now ≡ old.now
