-- What a stop inside a load or a commit leaves of the rows that were told before it.
use Rattle.std.proofs.Common.{◌≡◌, ◌⊎◌, Bool, true, false, List, [], Ok, IfSome, IsTrue, refl, sym, ap, subst, ◌∙◌, inl, inr}
use Rattle.sqlite_trees.specs.declared.store.Store.{Ghosts}
use Rattle.sqlite_trees.specs.Tree.{Trees}
use Rattle.sqlite_catalog.specs.Listing.{IsSound}
use Rattle.sqlite.specs.Effect.{Database}
use Rattle.sqlite.specs.Held.{Held, state}
use Rattle.sqlite.specs.State.{State, HasCleanDisk, IsLive}
use Rattle.bp_core.specs.declared.kept.Row.{Row}
use Rattle.bp_core.specs.declared.kept.Put.{Put}
use Rattle.bp_keep.specs.Puts.{put_all}
use Rattle.bp_keep_sql.specs.Asked.{NumbersOnce}
use Rattle.bp_keep_sql.specs.Files.{AreOfRows, LeavesRows}
use Rattle.bp_keep_sql.specs.Keeps.{Keeps, KeepsTrees, MayMake}
use Rattle.bp_keep_sql.specs.Lines.{kept_rows}
use Rattle.bp_keep_sql.specs.Table.{kept_schema, no_schema}
use Rattle.bp_keep_sql.specs.Told.{IsNumbered, rows_told}
use Rattle.bp_keep_sql.proofs.FileLemmas.{committed_rows}
use Rattle.bp_keep_sql.proofs.KindLemmas.{reads_nothing, rowids_read}
use Rattle.bp_keep_sql.proofs.TextLemmas.{rowids_text}
use Rattle.bp_keep_sql.proofs.ToldLemmas.{Tells, if_told}

-- trees that a database has, which keeps rows
pub kept_trees : (d : Database) (db : Trees) (rows : List Row) → db ≡ d.trees → Keeps d rows
    → KeepsTrees db rows
kept_trees d db rows same keeps =
    let of_d : KeepsTrees d.trees rows = record {
      schema = refl;
      sound = keeps.sound;
      numbered = keeps.numbered;
      rows_are = keeps.rows_are;
    } in
    subst (λ (t : Trees). KeepsTrees t rows) (sym same) of_d

of_rows : (db : Trees) (rows : List Row) → KeepsTrees db rows → AreOfRows db rows
of_rows db rows keeps = inr (keeps.sound, sym keeps.rows_are)

-- a connection that was open is open after its table was numbered
pub numbers_open : {S : Type 0} (store : Ghosts S) (numbered : Bool) (old new : Held S)
    (u : Unit {0}) → NumbersOnce store numbered old new (Ok u) → IsTrue (state store old).is_open
    → IsTrue (state store new).is_open
numbers_open store true old new u same o =
    subst (λ (h : Held _). IsTrue (state store h).is_open) (sym same) o
numbers_open store false old new u read o =
    (reads_nothing rowids_text [] (state store old) (state store new) read.0 rowids_read read.1).0.is_open

-- what a crash may leave before the call is the last commit
module _ (old : State) (live : IsLive old)
    (settled : old.in_transaction ≡ false → IsTrue old.is_open → old.now ≡ old.committed)
    (only : (db : Trees) → IsTrue old.is_open → old.may_leave db → db ≡ old.committed.trees) where
  before : (rows : List Row) → Tells old rows → (db : Trees) → old.may_leave db → AreOfRows db rows
  before rows t db left =
      subst (λ (d : Trees). AreOfRows d rows) (sym (only db t.is_open left))
      (committed_rows old rows live settled t)

  pub left_by_load : (new : State)
      → ((db : Trees) → new.may_leave db → old.may_leave db ⊎ MayMake old.now.schema db)
      → IfSome (rows_told old) (λ rows. LeavesRows new rows rows)
  left_by_load new stops =
      if_told old (λ rows. LeavesRows new rows rows) (λ rows t db left. elim (stops db left) [
        | inl was ↦ inl (before rows t db was)
        | inr make ↦ elim t.rows_are [
          | inl none ↦
              inl (subst (AreOfRows db) (sym none.1) (of_rows db [] (make.made none.0)))
          | inr table ↦ absurd (make.lacked table.0)
        ]
      ])

  module _ (changes : List Put) where
    pub left_as_before : (new : State) → ((db : Trees) → new.may_leave db → old.may_leave db)
        → IfSome (rows_told old) (λ rows. LeavesRows new rows (put_all changes rows))
    left_as_before new stops =
        if_told old (λ rows. LeavesRows new rows (put_all changes rows))
        (λ rows t db left. inl (before rows t db (stops db left)))

    -- the table was numbered first, and then the puts were made
    pub left_by_commit : (mid new : State) (numbered : Bool) → HasCleanDisk mid → mid.now ≡ old.now
        → (IsTrue old.is_open → IsTrue mid.is_open) → IsTrue numbered → IsNumbered numbered mid
        → ((db : Trees) → mid.may_leave db → old.may_leave db)
        → (mid.now.schema ≡ no_schema → (db : Trees) → new.may_leave db → mid.may_leave db)
        → ((rows : List Row) → Keeps mid.now rows → (db : Trees) → new.may_leave db
        → mid.may_leave db ⊎ KeepsTrees db (put_all changes rows))
        → IfSome (rows_told old) (λ rows. LeavesRows new rows (put_all changes rows))
    left_by_commit mid new numbered clean same opens is known early without stops =
        let schema = ap (λ (d : Database). d.schema) same in
        if_told old (λ rows. LeavesRows new rows (put_all changes rows)) (λ rows t db left.
        elim t.rows_are [
          | inl none ↦ inl (before rows t db (early db (without (schema ∙ none.0) db left)))
          | inr table ↦
              let has : mid.now.schema ≡ kept_schema = schema ∙ table.0 in
              let sound = subst (λ s. IsSound s old.now.trees) table.0 (live t.is_open).0 in
              let keeps : Keeps mid.now rows = record {
                schema = has;
                sound = subst (λ (d : Database). IsSound kept_schema d.trees) (sym same) sound;
                numbered = known is clean (opens t.is_open) has;
                rows_are = ap (λ (d : Database). kept_rows (d.trees 0)) same ∙ sym table.1;
              } in
              elim (stops rows keeps db left) [
                | inl was ↦ inl (before rows t db (early db was))
                | inr made ↦ inr (of_rows db (put_all changes rows) made)
              ]
        ])
