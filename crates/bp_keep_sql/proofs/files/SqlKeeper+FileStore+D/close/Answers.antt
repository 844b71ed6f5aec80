use Rattle.std.proofs.Common.{not, IfErr, IfOk, ap, subst, ◌∙◌}
use Rattle.sqlite_store.specs.FileStore.{view}
use Rattle.sqlite_trees.specs.View.{IsClean}
use Rattle.sqlite.specs.Files.{FailsToClose, IsClosed}
use Rattle.bp_keep_sql.specs.Files.{Closes}
use Rattle.bp_keep_sql.proofs.FileLemmas.{ok_closed}
use Rattle.bp_keep_sql.proofs.files.SqlKeeper+FileStore+D.close.Goals as goal

pub returns-clause-kept : goal.returns-clause-kept
returns-clause-kept g c =
    let conn = c.into_connection-connection.result in
    let test = c.is_autocommit-settled.ensures in
    subst (λ h. IfOk c.close_files.result (Closes h)) c.into_connection-connection.ensures
    (ok_closed conn c.close_files.result c.schema-schema.ensures.live
    (λ outside. test.settled (test.value ∙ ap not outside)) c.close_files.ensures.copied)

pub returns-clause-refused : goal.returns-clause-refused
returns-clause-refused g c =
    subst (λ h. IfErr c.close_files.result (λ e. IsClosed h e.1
    × (IsClean (view e.1) → FailsToClose h e.1 e.0))) c.into_connection-connection.ensures
    c.close_files.ensures.err
