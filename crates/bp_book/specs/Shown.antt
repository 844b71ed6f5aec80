-- What contracts see of a book.
use Rattle.std.specs.Prelude.{◌≡◌, ◌≤◌, ℕ, List, length}
use Rattle.bp_keep.specs.Keeper.{KeeperView}
use Rattle.bp_matter.specs.Matter.{Matter}
use Rattle.bp_rules.specs.Steps.{KeepsRows}
use Rattle.bp_book.specs.Calls.{run_calls}
use Rattle.bp_book.specs.declared.history.Made.{Made}
use Rattle.bp_book.specs.declared.history.TheConstants.{MOST_CALLS}

-- the matter as it was loaded, the calls since, what is known of the keeper, and how many calls
-- there may be. The tables are those after these calls
pub record BookView : Type 0 where
  pub opening : Matter
  pub journal : List Made
  pub keeper : KeeperView
  pub room : ℕ

-- the matter of its tables
abbrev pub tables_of : BookView → Matter
tables_of book = run_calls book.opening book.journal

-- what holds of every book
pub record IsBook (opening : Matter) (journal : List Made) (room : ℕ) (matter : Matter)
    (keeper : KeeperView) : Type 0 where
  pub ran : matter ≡ run_calls opening journal
  pub kept : KeepsRows keeper matter
  pub fits : length journal ≤ room
  pub most : room ≤ MOST_CALLS
