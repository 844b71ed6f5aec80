-- What making the table and reading it do.
use Rattle.std.proofs.Common.{◌≡◌, ℕ, true, false, List, [], ◌∷◌, map, codes, append-nil, Option, None, Ok, refl, sym, ap, subst, subst₂, ◌∙◌, inl, inr}
use Rattle.sqlite_value.specs.declared.keys.Collation.TheVariants.{Binary}
use Rattle.sqlite_value.specs.declared.keys.Key.{Key}
use Rattle.sqlite_value.specs.Keys.{ascending}
use Rattle.sqlite_value.specs.Order.{Row as Line}
use Rattle.sqlite_trees.specs.Tree.{Trees}
use Rattle.sqlite_sql.specs.Term.{Term, col, eval_all}
use Rattle.sqlite_schema.specs.declared.schema.Schema.{Schema}
use Rattle.sqlite_schema.specs.declared.command.Command.{Command}
use Rattle.sqlite_schema.specs.declared.command.Command.TheVariants.{Select, CreateTable, Nothing}
use Rattle.sqlite_catalog.specs.Change.{created, next_tree}
use Rattle.sqlite_catalog.specs.Listing.{IsSound}
use Rattle.sqlite.specs.Effect.{Database}
use Rattle.sqlite.specs.declared.run.Mode.{Mode}
use Rattle.sqlite.specs.Clock.{timed}
use Rattle.sqlite.specs.Does.{Tally, Does, lacks_sequence}
use Rattle.sqlite.specs.State.{State, CommitsBy, MayCommit, Writes, Executes, IsUnchanged, Shown, mode_of, text_of}
use Rattle.sqlite.specs.Listing.{understood}
use Rattle.sqlite.proofs.Callers.{IsPlain, command_of, statement_of, runs_as, reads_as}
use Rattle.bp_core.specs.Sorted.{row_key, ascends}
use Rattle.bp_keep_sql.specs.Table.{kept_table, kept_schema, no_schema}
use Rattle.bp_keep_sql.specs.Rowids.{AreNumbered}
use Rattle.bp_keep_sql.specs.Lines.{shown_row, kept_rows}
use Rattle.bp_keep_sql.specs.Keeps.{KeepsTrees, MayMake}
use Rattle.bp_keep_sql.proofs.TextLemmas.{create_text, create_is, create_plain, there_is, there_plain, table_is, select_text, select_is, select_plain, no_select, all_query}
use Rattle.bp_keep_sql.proofs.MapLemmas.{kept-answer}
use Rattle.bp_keep_sql.proofs.LineLemmas.{one_of_key}
use Rattle.bp_keep_sql.proofs.QueryLemmas.{Finds, finds, found_each, found_all, has_map, map_has}
use Rattle.bp_keep_sql.proofs.DeleteLemmas.{went, same_value}

-- what the text makes of a database without a table
makes : (limit : Option ℕ) (mode : Mode) (old : Database) (tally : Tally) (after : Database)
    → old.schema ≡ no_schema → Does limit mode [] old create_text None CreateTable (Ok (tally, after))
    → (after.schema ≡ kept_schema) × (after.trees 0 ≡ [])
makes limit mode old tally after has changed =
    let all = went changed in
    let first = went all.1 in
    let made = first.1 in
    let both : Ok made.table ≡ Ok kept_table = sym made.defined ∙ table_is in
    let same : made.table ≡ kept_table = same_value both in
    let schema : first.0.schema ≡ kept_schema = made.is ∙ ap (λ s. created s made.table) has ∙ ap (created no_schema) same in
    let plain : lacks_sequence first.0.schema ≡ false = ap lacks_sequence schema in
    let now : after ≡ first.0 = ap (λ (p : Tally × Database). p.1) (same_value all.2) ∙ same_value (rw plain at first.2) in
    (ap (λ (d : Database). d.schema) now ∙ schema, ap (λ (d : Database). d.trees 0) now ∙ subst (λ s. first.0.trees (next_tree s) ≡ []) has made.empty)

pub creates : (old new : State) (count : ℕ) → old.now.schema ≡ no_schema
    → Executes create_text [] old new (Ok count)
    → (new.now.schema ≡ kept_schema) × (new.now.trees 0 ≡ []) × IsSound new.now.schema new.now.trees
creates old new count has h =
    let w = subst (λ t. Writes old new None CreateTable t [] count) create_is.1 (runs_as create_text [] old new no_schema has CreateTable create_is.0 create_plain count h) in
    let m = makes old.step_limit (mode_of old) old.now w.tally new.now has w.changed in
    (m.0, m.1, w.sound)

-- where the table is there, nothing is done
pub stays : (old new : State) (count : ℕ) → old.now.schema ≡ kept_schema
    → Executes create_text [] old new (Ok count) → IsUnchanged old new
stays old new count has h = (runs_as create_text [] old new kept_schema has Nothing there_is there_plain count h).0

-- ---- a stop as it is made

-- what a text whose meaning is known may commit
module _ (sql : List ℕ) (params : Line) (old : State) (schema : Schema) (has : old.now.schema ≡ schema)
    (command : Command) (is : command_of (understood schema sql) ≡ command)
    (plain : IsPlain (understood schema sql)) where
  commits_as : (db : Trees) → CommitsBy sql params old db
      → MayCommit old None command (statement_of sql (understood schema sql)) params db
  unfolding CommitsBy
  commits_as db h =
      let known = sym h.1.is ∙ ap (λ s. understood s sql) has in
      let bare = subst IsPlain (sym known) plain in
      let ran : MayCommit old h.0.returning h.0.command (text_of sql h.0) (timed params h.0.formats h.1.now) db = h.2 in
      subst₂ (λ k t. MayCommit old None k t params db) (ap command_of known ∙ is) (ap (statement_of sql) known)
      (rw (bare.0, bare.1, append-nil params) at ran)

-- the table without a row
pub no_rows : (db : Trees) → db 0 ≡ [] → IsSound kept_schema db → KeepsTrees db []
no_rows db none sound = record {
  schema = refl;
  sound = sound;
  numbered = subst AreNumbered (sym none)
      (record { ints = λ x has. absurd has; one = λ x y has. absurd has });
  rows_are = ap kept_rows none;
}

may_create : (old : State) (db : Trees) → old.now.schema ≡ no_schema
    → CommitsBy create_text [] old db → KeepsTrees db []
may_create old db has h =
    let may = subst (λ t. MayCommit old None CreateTable t [] db) create_is.1 (commits_as create_text [] old no_schema has CreateTable create_is.0 create_plain db h) in
    elim may [
      | inl ends ↦ elim ends.0 [
        | inl commit ↦ absurd (let e = commit in cc)
        | inr release ↦ absurd (let e = release.2 in cc)
      ]
      | inr write ↦
          let m = makes old.step_limit (mode_of old) old.now write.1 write.2 has write.3 in
          let sound = subst (λ s. IsSound s write.2.trees) m.0 write.4 in
          subst (λ (t : Trees). KeepsTrees t []) (sym write.5) (no_rows write.2.trees m.1 sound)
    ]

may_leave_none : (old : State) (db : Trees) → old.now.schema ≡ kept_schema
    → CommitsBy create_text [] old db → ⊥
may_leave_none old db has h =
    elim (commits_as create_text [] old kept_schema has Nothing there_is there_plain db h) [
      | inl ends ↦ elim ends.0 [
        | inl commit ↦ let e = commit in cc
        | inr release ↦ let e = release.2 in cc
      ]
      | inr write ↦ let e = write.3 in cc
    ]

-- the text commits the table without a row, or nothing
pub may_make : (old : State) (db : Trees) → CommitsBy create_text [] old db
    → MayMake old.now.schema db
may_make old db h =
    record { made = λ has. may_create old db has h; lacked = λ has. may_leave_none old db has h }

abbrev project : List Term
project = col 1 1 ∷ col 1 2 ∷ col 1 3 ∷ col 1 4 ∷ []

abbrev order : List (Term × Key)
order = (col 1 1, ascending Binary) ∷ (col 1 2, ascending Binary) ∷ (col 1 3, ascending Binary) ∷ []

-- an answer whose keys rise is what is kept
pub selects : (old new : State) (lines : List Line) → old.now.schema ≡ kept_schema
    → IsSound kept_schema old.now.trees → AreNumbered (old.now.trees 0)
    → Shown select_text [] old new lines
    → ascends row_key 0 (map shown_row lines) ≡ true
    → map shown_row lines ≡ kept_rows (old.now.trees 0)
selects old new lines has sound numbered h up =
    let db = old.now.trees in
    let command = Select (record { lets = []; body = all_query }) (codes "kind" ∷ codes "k1" ∷ codes "k2" ∷ codes "body" ∷ []) in
    let a = reads_as select_text [] old new kept_schema has command select_is.0 select_plain select_is.1 lines h in
    let f : Finds [] project order db [] lines = finds [] project order db [] lines a.answer in
    kept-answer (db 0) (map shown_row lines) (one_of_key db sound numbered.one numbered.ints) up
    (λ x g. has_map shown_row lines (eval_all project ([] ∷ x ∷ [])) (found_all [] project order db [] lines f x g refl))
    (λ r g. let m = map_has shown_row lines r g in let e = found_each [] project order db [] lines f m.0 m.1 in (e.0, e.1, sym (m.2 ∙ ap shown_row e.3)))

-- without the table there is no answer
pub selects_nothing : (old new : State) (lines : List Line) → old.now.schema ≡ no_schema
    → Shown select_text [] old new lines → ⊥
unfolding Shown
selects_nothing old new lines has h = let e = sym h.1.is ∙ ap (λ s. understood s select_text) has ∙ no_select in cc
