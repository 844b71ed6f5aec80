-- What the removal does.
use Rattle.std.proofs.Common.{◌≡◌, ◌⊎◌, ◌≤◌, ℕ, pos, true, ◌&&◌, eqb, [], ◌∷◌, None, Result, Ok, Err, refl, sym, ap, subst, ◌∙◌, inl, inr}
use Rattle.std.proofs.lemmas.Bool.{and_parts, and_from, eqb-true, eq-eqb}
use Rattle.sqlite_value.specs.declared.value.Value.TheVariants.{Int}
use Rattle.sqlite_value.specs.declared.keys.Collation.TheVariants.{Binary}
use Rattle.sqlite_value.specs.Order.{Row as Line, column}
use Rattle.sqlite_trees.specs.Tree.{Trees, rowid}
use Rattle.sqlite_sql.specs.Term.{col}
use Rattle.sqlite_schema.specs.Rules.{equal}
use Rattle.sqlite_schema.specs.declared.command.Command.TheVariants.{Delete}
use Rattle.sqlite_catalog.specs.Listing.{IsSound}
use Rattle.sqlite_rules.specs.Lists.{Has}
use Rattle.sqlite_rules.specs.Edit.{Edit, edit_of}
use Rattle.sqlite_rules.specs.declared.error.Rowids.TheVariants.{Given}
use Rattle.sqlite_rules.specs.Calls.{ids_of}
use Rattle.sqlite.specs.Effect.{Database}
use Rattle.sqlite.specs.Rows.{Written}
use Rattle.sqlite.specs.Does.{Tally, Does}
use Rattle.sqlite.specs.State.{State, mode_of, Executes}
use Rattle.sqlite.specs.Listing.{understood}
use Rattle.sqlite.proofs.Callers.{statement_of, runs_as, one_step}
use Rattle.bp_core.specs.Sorted.{row_key, without}
use Rattle.bp_keep_sql.specs.Table.{kept_table, kept_schema}
use Rattle.bp_keep_sql.specs.Rowids.{AreNumbered}
use Rattle.bp_keep_sql.specs.Lines.{kept_row, kept_rows}
use Rattle.bp_keep_sql.proofs.TextLemmas.{delete_text, delete_is, delete_plain, is_param, key_query}
use Rattle.bp_keep_sql.proofs.LineLemmas.{IsLine, line_is, equal_numbers, row_is, key_parts}
use Rattle.bp_keep_sql.proofs.QueryLemmas.{Finds, finds, found_each, found_all, edited_has, edited_kept}
use Rattle.bp_keep_sql.proofs.WriteLemmas.{removed}

-- a part that gave a value did not stop on the way
pub went : {B E R : Type 0} {b : B} {Stops : E → Type 0}
    → ((stop : E) × Stops stop × (Ok b ≡ Err stop)) ⊎ R → R
went (inl stopped) = absurd (let e = stopped.2 in cc)
went (inr on) = on

pub same_value : {B E : Type 0} {a b : B} → ◌≡◌ {A = Result B E} (Ok a) (Ok b) → a ≡ b
same_value e = cc

param_numbers : (x : Line) (a : IsLine x) (kind k1 k2 : ℕ)
    → (equal Binary (column x 1) (Int (pos kind)) && (equal Binary (column x 2) (Int (pos k1)) && (equal Binary (column x 3) (Int (pos k2)) && true)))
    ≡ (eqb a.kind kind && (eqb a.k1 k1 && (eqb a.k2 k2 && true)))
param_numbers x a kind k1 k2 = rw (a.kind_is, a.k1_is, a.k2_is, equal_numbers a.kind kind, equal_numbers a.k1 k1, equal_numbers a.k2 k2) refl

pub deletes : (old new : State) (kind k1 k2 count : ℕ) → k1 ≤ 4294967295 → k2 ≤ 4294967295
    → old.now.schema ≡ kept_schema → IsSound kept_schema old.now.trees
    → AreNumbered (old.now.trees 0)
    → Executes delete_text (Int (pos kind) ∷ Int (pos k1) ∷ Int (pos k2) ∷ []) old new (Ok count)
    → (new.now.schema ≡ kept_schema) × IsSound kept_schema new.now.trees × AreNumbered (new.now.trees 0)
    × (kept_rows (new.now.trees 0) ≡ without row_key (row_key (record { kind = kind; k1 = k1; k2 = k2; body = [] })) (kept_rows (old.now.trees 0)))
deletes old new kind k1 k2 count fits1 fits2 has sound numbered h =
    let params : Line = Int (pos kind) ∷ Int (pos k1) ∷ Int (pos k2) ∷ [] in
    let db = old.now.trees in
    let command = Delete 0 (record { lets = []; body = key_query }) in
    let text = statement_of delete_text (understood kept_schema delete_text) in
    let w = runs_as delete_text params old new kept_schema has command delete_is delete_plain count h in
    let done = went (subst (λ s. Does old.step_limit (mode_of old) params (record old.now { schema = s }) text None command (Ok (w.tally, new.now))) has w.changed) in
    let now = ap (λ (p : Tally × Database). p.1) (same_value (went (went done.2).2).2) in
    let given = went done.1 in
    let written = went given.2 in
    let trees : new.now.trees ≡ written.0 = ap (λ (d : Database). d.trees) now ∙ ap (λ (it : Written). it.trees) (same_value written.2) in
    let schema : new.now.schema ≡ kept_schema = ap (λ (d : Database). d.schema) now in
    let edit : Edit = edit_of db kept_table (ids_of given.0) Given 0 [] in
    let applies = one_step kept_schema _ db written.0 edit refl written.1 in
    let after : IsSound kept_schema written.0 = subst (λ t. IsSound kept_schema t) trees (subst (λ s. IsSound s new.now.trees) schema w.sound) in
    let filter = is_param 1 0 ∷ is_param 2 1 ∷ is_param 3 2 ∷ [] in
    let project = col 1 0 ∷ [] in
    let f : Finds filter project [] db params given.0 = finds filter project [] db params given.0 given.1.answer in
    let left : (x : Line) → Has (written.0 0) x → Has (db 0) x × _ = λ x g. elim (edited_has kept_schema _ db written.0 edit applies x g) [ inl none ↦ absurd none | inr was ↦ was ] in
    let numbered' : AreNumbered (written.0 0) = record { ints = λ x g. numbered.ints x (left x g).0; one = λ x y p q. numbered.one x y (left x p).0 (left y q).0 } in
    let rows = removed db written.0 sound after numbered numbered' kind k1 k2 fits1 fits2 given.0
    (λ row g.
    let e = found_each filter project [] db params given.0 f row g in
    let a = line_is db sound e.0 e.1 in
    let t = sym (param_numbers e.0 a kind k1 k2) ∙ e.2 in
    let t1 = and_parts (eqb a.kind kind) _ t in
    let t2 = and_parts (eqb a.k1 k1) _ t1.1 in
    let t3 = and_parts (eqb a.k2 k2) _ t2.1 in
    let key : row_key (kept_row e.0) ≡ row_key (record { kind = kind; k1 = k1; k2 = k2; body = [] }) =
    ap row_key (row_is e.0 e.0 a a) ∙ rw (eqb-true a.kind kind t1.0, eqb-true a.k1 k1 t2.0, eqb-true a.k2 k2 t3.0) refl in
    (e.0, e.1, ap rowid e.3, key))
    (λ y g key.
    let a = line_is db sound y g in
    let parts = key_parts a.kind kind a.k1 k1 a.k2 k2 a.k1_fits fits1 a.k2_fits fits2 (sym (ap row_key (row_is y y a a)) ∙ key) in
    let passes = param_numbers y a kind k1 k2 ∙ and_from _ _ (eq-eqb a.kind kind parts.0) (and_from _ _ (eq-eqb a.k1 k1 parts.1) (and_from _ _ (eq-eqb a.k2 k2 parts.2) refl)) in
    (_, found_all filter project [] db params given.0 f y g passes, refl))
    left
    (λ x g lacks. edited_kept kept_schema _ db written.0 edit applies x g lacks) in (
      schema,
      subst (λ s. IsSound s new.now.trees) schema w.sound,
      subst (λ t. AreNumbered (t 0)) (sym trees) numbered',
      ap (λ (t : Trees). kept_rows (t 0)) trees ∙ rows,
    )
