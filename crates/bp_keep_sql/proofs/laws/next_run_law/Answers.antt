use Rattle.std.proofs.Common.{◌≡◌, ◌≤◌, Bool, IsTrue, sym, subst, ◌∙◌, arith}
use Rattle.sqlite_trees.specs.View.{doubt}
use Rattle.sqlite_store.specs.FileStore.{view}
use Rattle.sqlite.specs.Files.{file_state}
use Rattle.sqlite.specs.State.{HasCleanDisk}
use Rattle.bp_keep_sql.specs.Files.{LeavesRows}
use Rattle.bp_keep_sql.proofs.FileLemmas.{next_either}
use Rattle.bp_keep_sql.proofs.laws.next_run_law.Goals as goal

clean_before : (a b : Bool) → doubt a ≤ doubt b → doubt b ≡ 0 → doubt a ≡ 0
clean_before a b less none = omega (arith, less, none)

pub returns-clause-clean : goal.returns-clause-clean
returns-clause-clean g c clean =
    let first : HasCleanDisk (file_state c.into_connection.result) =
    clean_before _ _ c.into_store.ensures.quiet.clean clean in
    subst (λ h. HasCleanDisk (file_state h)) c.into_connection.ensures first

pub returns-clause-moment : goal.returns-clause-moment
returns-clause-moment g c clean before after image told leaves may tells =
    let numbered : IsTrue (view c.into_connection.result.store).is_numbered =
    sym c.into_store.ensures.undone.numbered ∙ c.into_store.ensures.numbered clean in
    next_either c.args.keeper.conn.store before after image told
    (subst (λ h. IsTrue (view h.store).is_numbered) c.into_connection.ensures numbered) leaves may tells

pub returns-clause-given_up : goal.returns-clause-given_up
returns-clause-given_up g c clean before after image told leaves may tells =
    let first : LeavesRows (file_state c.into_connection.result) before after =
    subst (λ h. LeavesRows (file_state h) before after) (sym c.into_connection.ensures) leaves in
    next_either c.into_store.result before after image told (c.into_store.ensures.numbered clean)
    (λ db left. first db (c.into_store.ensures.quiet.outcomes db left)) may tells
