-- A keeper over a database.
use Rattle.std.specs.Prelude.{◌≡◌, ℕ, Bool, true, false, IfSome, IsTrue, refl}
use Rattle.std.proofs.Common.{true≢false, sym}
use Rattle.std.specs.Coded.{Coded, code_by, coded×, coded_ℕ, coded_bool}
use Rattle.sqlite_trees.specs.declared.store.Store.{Ghosts}
use Rattle.sqlite.specs.Held.{Held, held_code, state}
use Rattle.sqlite.specs.State.{HasCleanDisk}
use Rattle.bp_keep.specs.Keeper.{KeeperView}
use Rattle.bp_core.specs.Sorted.{ascends, row_key}
use Rattle.bp_keep_sql.specs.Asked.{SameLimit}
use Rattle.bp_keep_sql.specs.Told.{rows_told, told-ascend}

-- what contracts see of it: its connection, whether its table was numbered, and its counts
pub record KeptOver (S : Type 0) : Type 0 where
  pub conn : Held S
  pub numbered : Bool
  pub faults : ℕ
  pub loads : ℕ
  pub commits : ℕ

-- how the logic stores it
abbrev pub kept_code : {S : Type 0} → Coded S → Coded (KeptOver S)
kept_code {S} store =
    code_by (Held S × (Bool × (ℕ × (ℕ × ℕ))))
    (coded× (held_code store) (coded× coded_bool (coded× coded_ℕ (coded× coded_ℕ coded_ℕ))))
    (λ k. (k.conn, (k.numbered, (k.faults, (k.loads, k.commits)))))
    (λ p. record {
      conn = p.0;
      numbered = p.1.0;
      faults = p.1.1.0;
      loads = p.1.1.1.0;
      commits = p.1.1.1.1;
    })
    (λ _. refl)

-- what is known of it. A disk may fail at any call, so it is never sure
abbrev pub keeper_shown : {S : Type 0} → Ghosts S → KeptOver S → KeeperView
keeper_shown store keeper = record {
  rows = rows_told (state store keeper.conn);
  faults = keeper.faults;
  loads = keeper.loads;
  commits = keeper.commits;
  sure = false;
}

-- a call leaves no transaction open and the limit of steps as it was, and a keeper that was numbered
-- stays so
pub record GoesOn {S : Type 0} (store : Ghosts S) (old new : KeptOver S) : Type 0 where
  pub numbered : IsTrue old.numbered → IsTrue new.numbered
  pub mode : HasCleanDisk (state store new.conn) → old.conn.in_transaction ≡ false
      → new.conn.in_transaction ≡ false
  pub limit : SameLimit store old.conn new.conn

-- its rows ascend
pub shown-ascend : {S : Type 0} (store : Ghosts S) (keeper : KeptOver S)
    → IfSome (keeper_shown store keeper).rows (λ rows. IsTrue (ascends row_key 0 rows))
shown-ascend store keeper = told-ascend (state store keeper.conn)

-- and were it sure, it would never have failed
pub shown-unfailing : {S : Type 0} (store : Ghosts S) (keeper : KeptOver S)
    → (keeper_shown store keeper).sure ≡ true → (keeper_shown store keeper).faults ≡ 0
shown-unfailing store keeper sure = absurd (true≢false (sym sure))
