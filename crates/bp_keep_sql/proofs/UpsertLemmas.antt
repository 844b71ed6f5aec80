-- What the upsert does.
use Rattle.std.proofs.Common.{◌≡◌, ◌⊎◌, ◌≤◌, ℕ, ℤ, pos, Bool, true, false, ◌&&◌, ◌||◌, eqb, List, [], ◌∷◌, ◌++◌, map, drop, Option, Some, None, Ok, refl, sym, ap, subst, ◌∙◌, inl, inr}
use Rattle.std.specs.Ordering.{is_eq, int_cmp}
use Rattle.std.proofs.lemmas.Bool.{and_parts, and_from, eqb-true, not-true}
use Rattle.std.proofs.lemmas.Bool.Decides.{nat_tests}
use Rattle.std.proofs.lemmas.Int.{ints}
use Rattle.std.proofs.Common.{arith}
use Rattle.sqlite_value.specs.declared.value.Value.TheVariants.{Null, Int, Blob}
use Rattle.sqlite_value.specs.declared.keys.Collation.TheVariants.{Binary}
use Rattle.sqlite_value.specs.Order.{Row as Line, column, value_cmp}
use Rattle.sqlite_value.specs.Keys.{plain}
use Rattle.sqlite_value.proofs.OrderLemmas.{value_cmp-Int, value_cmp_total}
use Rattle.std.proofs.lemmas.Cmp.{tied_itself}
use Rattle.sqlite_trees.specs.Tree.{Trees, rowid, put_row}
use Rattle.sqlite_sql.specs.declared.ops.BinaryOp.TheVariants.{Compare}
use Rattle.sqlite_sql.specs.declared.ops.CompareOp.TheVariants.{Eq}
use Rattle.sqlite_sql.specs.Ops.{binary, from_truth, is_true}
use Rattle.sqlite_sql.specs.Term.{Term, col, op2, eval_all}
use Rattle.sqlite_schema.specs.Rules.{equal, agree}
use Rattle.sqlite_schema.specs.declared.schema.Keys.{Keys}
use Rattle.sqlite_schema.specs.declared.schema.Keys.TheVariants.{Enforced}
use Rattle.sqlite_schema.specs.declared.command.Conflict.TheVariants.{Abort}
use Rattle.sqlite_schema.specs.declared.command.Source.TheVariants.{Values}
use Rattle.sqlite_schema.specs.declared.command.Command.TheVariants.{InsertOr}
use Rattle.sqlite_catalog.specs.Listing.{IsSound}
use Rattle.sqlite_rules.specs.Lists.{Has}
use Rattle.sqlite_rules.specs.declared.error.Refusal.{Refusal}
use Rattle.sqlite_rules.specs.Edit.{Edit, edit_of, numbered, next_rowid, with_rowid, is_taken, are_fresh}
use Rattle.sqlite_rules.specs.Keys.{AreConflicts}
use Rattle.sqlite_rules.specs.Cast.{cast_row}
use Rattle.sqlite_rules.specs.declared.error.Rowids.TheVariants.{Given, Chosen}
use Rattle.sqlite_rules.specs.Calls.{ids_of}
use Rattle.sqlite_rules.proofs.ListLemmas.{some_from}
use Rattle.sqlite.specs.Effect.{Database}
use Rattle.sqlite.specs.Rows.{Written, Task, shown, nothing, count_of, Puts, Updates, Clears, Meets, Judged, Upserts, Tries, TriesEach}
use Rattle.sqlite.specs.Does.{Tally, Does}
use Rattle.sqlite.specs.State.{State, mode_of, Executes}
use Rattle.sqlite.specs.Listing.{understood}
use Rattle.sqlite.proofs.Callers.{statement_of, runs_as, one_step}
use Rattle.bp_core.specs.declared.kept.Row.{Row}
use Rattle.bp_core.specs.Sorted.{row_key, put}
use Rattle.bp_keep_sql.specs.Table.{kept_table, kept_schema, key_places}
use Rattle.bp_keep_sql.specs.Rowids.{AreNumbered}
use Rattle.bp_keep_sql.specs.Lines.{kept_row, kept_rows}
use Rattle.bp_keep_sql.proofs.TextLemmas.{upsert_text, upsert_is, upsert_plain, given_terms, on_conflict, update_query}
use Rattle.bp_keep_sql.proofs.LineLemmas.{IsLine, line_is, agree_numbers, row_is}
use Rattle.bp_keep_sql.proofs.QueryLemmas.{map_has, has_map, Lacks, Finds, finds, found_each, found_all, edited_has, edited_new, edited_kept}
use Rattle.bp_keep_sql.proofs.WriteLemmas.{cast_int, cast_null, same_line, not_lacks, inserted, replaced}
use Rattle.bp_keep_sql.proofs.DeleteLemmas.{went, same_value}

pub int_same : (m n : ℤ) → is_eq (value_cmp (Int m) (Int n)) ≡ true → m ≡ n
int_same m n h = let e : is_eq (int_cmp m n) ≡ true = ap is_eq (sym (value_cmp-Int m n)) ∙ h in grind (arith, ints, nat_tests)

is_test : (a : Bool) → is_true (from_truth (Some a)) ≡ a
is_test true = refl
is_test false = refl

-- two rowids are equal in SQL where they are
equal_ints : (m n : ℤ) → equal Binary (Int m) (Int n) ≡ is_eq (value_cmp (Int m) (Int n))
unfolding binary
equal_ints m n = is_test (is_eq (value_cmp (Int m) (Int n)))

numbered-given : (xs rows : List Line) → numbered Given rows xs ≡ xs
numbered-given [] rows = refl
numbered-given (x ∷ xs) rows = ap (λ l. x ∷ l) (numbered-given xs (put_row x rows))

pub tied : (n : ℤ) → is_eq (value_cmp (Int n) (Int n)) ≡ true
tied n = rw (tied_itself value_cmp_total (Int n)) refl

-- the line of this rowid with the values that are put
abbrev pub put_line : ℤ → ℕ → ℕ → ℕ → List ℕ → Line
put_line id kind k1 k2 body = Int id ∷ Int (pos kind) ∷ Int (pos k1) ∷ Int (pos k2) ∷ Blob body ∷ []

cast_line : (id : ℤ) (kind k1 k2 : ℕ) (body : List ℕ)
    → cast_row kept_table (put_line id kind k1 k2 body) ≡ put_line id kind k1 k2 body
cast_line id kind k1 k2 body = rw (cast_int id, cast_int (pos kind), cast_int (pos k1), cast_int (pos k2)) refl

-- the row that is tried: a rowid is chosen
chosen_line : (rows : List Line) (kind k1 k2 : ℕ) (body : List ℕ)
    → with_rowid Chosen rows (cast_row kept_table (Null ∷ Int (pos kind) ∷ Int (pos k1) ∷ Int (pos k2) ∷ Blob body ∷ [])) ≡ put_line (next_rowid rows) kind k1 k2 body
chosen_line rows kind k1 k2 body = rw (cast_null, cast_int (pos kind), cast_int (pos k1), cast_int (pos k2)) refl

true_false : true ≡ false → ⊥
true_false e = absurd (cc)

either_true : (a : Bool) → (a || false) ≡ true → a ≡ true
either_true true h = refl
either_true false h = h

module _ (limit : Option ℕ) (keys : Keys) (db : Trees) (sound : IsSound kept_schema db) (numbered' : AreNumbered (db 0)) (kind k1 k2 : ℕ) (body : List ℕ)
    (fits0 : kind ≤ 255) (fits1 : k1 ≤ 4294967295) (fits2 : k2 ≤ 4294967295) where
  abbrev params : Line
  params = Int (pos kind) ∷ Int (pos k1) ∷ Int (pos k2) ∷ Blob body ∷ []

  abbrev task : Task
  task = record { limit = limit; keys = keys; schema = kept_schema; table = kept_table; params = params }

  abbrev row : Row
  row = record { kind = kind; k1 = k1; k2 = k2; body = body }

  -- the lines hold the row that was put
  abbrev pub HasPut : Trees → Type 0
  HasPut next = AreNumbered (next 0) × (kept_rows (next 0) ≡ put row_key row (kept_rows (db 0)))

  abbrev line_of : (id : ℤ) → IsLine (put_line id kind k1 k2 body)
  line_of id = record {
    kind = kind;
    k1 = k1;
    k2 = k2;
    body = body;
    kind_is = refl;
    k1_is = refl;
    k2_is = refl;
    body_is = refl;
    kind_fits = fits0;
    k1_fits = fits1;
    k2_fits = fits2;
  }

  -- the line is put where its rowid is free
  puts : (id : ℤ) (done : Written) → IsSound kept_schema done.trees
      → Puts task (put_line id kind k1 k2 body) db (Ok done) → HasPut done.trees
  puts id done after h =
      let line = put_line id kind k1 k2 body in
      let written = went h in
      let next = written.0 in
      let trees : done.trees ≡ next = ap (λ (it : Written). it.trees) (same_value written.2) in
      let edit : Edit = edit_of db kept_table [] Given 0 (line ∷ []) in
      let applies = one_step kept_schema keys db next edit refl written.1 in
      let news : edit.news ≡ line ∷ [] = ap (λ l. l ∷ []) (cast_line id kind k1 k2 body) in
      let after' : IsSound kept_schema next = subst (λ t. IsSound kept_schema t) trees after in
      let each : (x : Line) → Has (next 0) x → (x ≡ line) ⊎ Has (db 0) x = λ x g. elim (edited_has kept_schema keys db next edit applies x g) [
        | inl new ↦ elim (subst (λ l. Has l x) news new) [ inl same ↦ inl same | inr none ↦ absurd none ]
        | inr was ↦ inr was.0
      ] in
      let here = edited_new kept_schema keys db next edit applies line (subst (λ l. Has l line) (sym news) (inl refl)) in
      let all : (x : Line) → Has (db 0) x → Has (next 0) x = λ x g. edited_kept kept_schema keys db next edit applies x g (λ i none. absurd none) in
      let free : is_taken (db 0) line ≡ false = not-true _ (and_parts _ _ (ap (λ l. are_fresh (db 0) l) (sym news) ∙ applies.fresh)).0 in
      let apart : (y : Line) → Has (db 0) y → is_eq (value_cmp (rowid y) (Int id)) ≡ true → ⊥ = λ y g same.
      true_false (sym (some_from (λ r. is_eq (value_cmp (rowid r) (rowid line))) (db 0) y g same) ∙ free) in
      let now : AreNumbered (next 0) = record {
        ints = λ x g. elim (each x g) [ inl same ↦ (id, ap rowid same) | inr was ↦ numbered'.ints x was ];
        one = λ x y p q same. elim (each x p) [
          | inl a ↦ elim (each y q) [
            | inl b ↦ a ∙ sym b
            | inr b ↦
                let n = numbered'.ints y b in
                let e : id ≡ n.0 = int_same id n.0 (rw (ap rowid a, n.1) at same) in
                absurd (apart y b (rw (n.1, e) (tied n.0)))
          ]
          | inr a ↦ elim (each y q) [
            | inl b ↦ absurd (apart x a (ap (λ l. is_eq (value_cmp (rowid x) (rowid l))) (sym b) ∙ same))
            | inr b ↦ numbered'.one x y a b same
          ]
        ];
      } in
      (subst (λ t. AreNumbered (t 0)) (sym trees) now, ap (λ (t : Trees). kept_rows (t 0)) trees ∙ inserted db next sound after' numbered' now line here each all)

  -- the line of the key gets the body
  updates : (id : ℤ) (there : Line) (more : List Line) (done : Written)
      → IsSound kept_schema done.trees
      → AreConflicts (Some key_places) kept_schema.indexes kept_table (db 0) (put_line id kind k1 k2 body) (there ∷ more)
      → Updates task (record { lets = []; body = update_query }) (params ++ rowid there ∷ shown kept_table (put_line id kind k1 k2 body)) db (Ok done)
      → HasPut done.trees
  updates id there more done after found h =
      let line = put_line id kind k1 k2 body in
      -- the line that has the key
      let cause = found.sound there (inl refl) in
      let was = cause.0 in
      let a = line_is db sound was cause.1 in
      let agrees : agree plain key_places was key_places line ≡ true = either_true _ cause.2 in
      let t = sym (agree_numbers was line a (line_of id)) ∙ agrees in
      let t1 = and_parts (eqb a.kind kind) _ t in
      let t2 = and_parts (eqb a.k1 k1) _ t1.1 in
      let t3 = and_parts (eqb a.k2 k2) _ t2.1 in
      let n = numbered'.ints was cause.1 in
      let new = put_line n.0 kind k1 k2 body in
      let key : row_key (kept_row was) ≡ row_key (kept_row new) = ap row_key (row_is was was a a) ∙ rw (eqb-true a.kind kind t1.0, eqb-true a.k1 k1 t2.0, eqb-true a.k2 k2 t3.0) refl in
      -- the rows that the query has
      let given = went h in
      let written = went given.2 in
      let next = written.0 in
      let trees : done.trees ≡ next = ap (λ (it : Written). it.trees) (same_value written.2) in
      let filter : List Term = op2 (Compare Eq Binary) (col 1 0) (col 0 4) ∷ [] in
      let project : List Term = col 1 0 ∷ col 1 0 ∷ col 1 1 ∷ col 1 2 ∷ col 1 3 ∷ col 0 9 ∷ [] in
      let input : Line = params ++ rowid there ∷ shown kept_table line in
      let f : Finds filter project [] db input given.0 = finds filter project [] db input given.0 given.1.answer in
      let at_there : rowid there ≡ Int n.0 = ap rowid cause.3 ∙ n.1 in
      let is_was : (l : Line) → Has (db 0) l → (equal Binary (column l 0) (rowid there) && true) ≡ true → l ≡ was = λ l g p.
      let m = numbered'.ints l g in
      let e = sym (equal_ints m.0 n.0) ∙ (rw (m.1, at_there) at (and_parts (equal Binary (column l 0) (rowid there)) true p).0) in
      numbered'.one l was g cause.1 (rw (m.1, n.1) e) in
      let passes : (equal Binary (column was 0) (rowid there) && true) ≡ true = and_from (equal Binary (column was 0) (rowid there)) true (rw (n.1, at_there) (equal_ints n.0 n.0 ∙ tied n.0)) refl in
      let made : (r : Line) → Has given.0 r → (r ≡ eval_all project (input ∷ was ∷ [])) = λ r g.
      let e = found_each filter project [] db input given.0 f r g in
      e.3 ∙ ap (λ l. eval_all project (input ∷ l ∷ [])) (is_was e.0 e.1 e.2) in
      let is_there = found_all filter project [] db input given.0 f was cause.1 passes in
      -- what is written
      let edit : Edit = edit_of db kept_table (ids_of given.0) Given 1 given.0 in
      let applies = one_step kept_schema keys db next edit refl written.1 in
      let news : edit.news ≡ map (λ s. cast_row kept_table (drop 1 s)) given.0 = numbered-given _ _ in
      let written_row : cast_row kept_table (drop 1 (eval_all project (input ∷ was ∷ []))) ≡ new =
      rw (n.1, a.kind_is, a.k1_is, a.k2_is, eqb-true a.kind kind t1.0, eqb-true a.k1 k1 t2.0, eqb-true a.k2 k2 t3.0) (cast_line n.0 kind k1 k2 body) in
      let after' : IsSound kept_schema next = subst (λ t. IsSound kept_schema t) trees after in
      let each' : (x : Line) → Has (next 0) x → (x ≡ new) ⊎ (Has (db 0) x × Lacks (ids_of given.0) x) = λ x g. elim (edited_has kept_schema keys db next edit applies x g) [
        | inl mine ↦ let m = map_has (λ s. cast_row kept_table (drop 1 s)) given.0 x (subst (λ l. Has l x) news mine) in
            inl (m.2 ∙ ap (λ s. cast_row kept_table (drop 1 s)) (made m.0 m.1) ∙ written_row)
        | inr left ↦ inr left
      ] in
      let here : Has (next 0) new = edited_new kept_schema keys db next edit applies new
      (subst (λ l. Has l new) (sym news) (subst (Has (map (λ s. cast_row kept_table (drop 1 s)) given.0)) written_row (has_map (λ s. cast_row kept_table (drop 1 s)) given.0 _ is_there))) in
      let gone : (y : Line) → Has (db 0) y → Lacks (ids_of given.0) y → is_eq (value_cmp (rowid y) (Int n.0)) ≡ true → ⊥ = λ y g lacks same.
      let e : y ≡ was = same_line (db 0) numbered' y was n.0 g cause.1 n.1 same in
      not_lacks (db 0) numbered' given.0 was _ cause.1 is_there refl (subst (Lacks (ids_of given.0)) e lacks) in
      let now : AreNumbered (next 0) = record {
        ints = λ x g. elim (each' x g) [ inl same ↦ (n.0, ap rowid same) | inr old ↦ numbered'.ints x old.0 ];
        one = λ x y p q same. elim (each' x p) [
          | inl b ↦ elim (each' y q) [
            | inl c ↦ b ∙ sym c
            | inr c ↦
                let m = numbered'.ints y c.0 in
                let e : n.0 ≡ m.0 = int_same n.0 m.0 (rw (ap rowid b, m.1) at same) in
                absurd (gone y c.0 c.1 (rw (m.1, e) (tied m.0)))
          ]
          | inr b ↦ elim (each' y q) [
            | inl c ↦ absurd (gone x b.0 b.1 (ap (λ l. is_eq (value_cmp (rowid x) (rowid l))) (sym c) ∙ same))
            | inr c ↦ numbered'.one x y b.0 c.0 same
          ]
        ];
      } in (
        subst (λ t. AreNumbered (t 0)) (sym trees) now,
        ap (λ (t : Trees). kept_rows (t 0)) trees ∙ replaced db next sound after' numbered' now was new given.0 cause.1 key here
            (λ r g. ap rowid (made r g))
            (λ x g. elim (each' x g) [ inl same ↦ inl same | inr old ↦ inr old.0 ])
            (λ x g lacks. edited_kept kept_schema keys db next edit applies x g lacks),
      )

  -- the row is tried
  tries : (id : ℤ) (done : Written) → IsSound kept_schema done.trees
      → Tries task Abort (on_conflict ∷ []) (put_line id kind k1 k2 body) db (Ok done)
      → HasPut done.trees
  tries id done after (inl h) = absurd (let e = h.1 in cc)
  tries id done after (inr h) = judged h.0 h.2
    where
      clears : (found : List Line)
          → Clears task Abort (put_line id kind k1 k2 body) db found (Ok done) → HasPut done.trees
      clears [] g = puts id done after g
      clears (x ∷ more) g = puts id done after g

      met : (found : List Line)
          → AreConflicts (Some key_places) kept_schema.indexes kept_table (db 0) (put_line id kind k1 k2 body) found
          → Meets task (Upserts task Abort (put_line id kind k1 k2 body) db []) (put_line id kind k1 k2 body) db on_conflict found (Ok done)
          → HasPut done.trees
      met [] c g = clears g.0 g.2
      met (there ∷ more) c g = updates id there more done after c g

      judged : (verdict : Option Refusal)
          → Judged task Abort (on_conflict ∷ []) (put_line id kind k1 k2 body) db verdict (Ok done)
          → HasPut done.trees
      judged None g = met g.0 g.1 g.2
      judged (Some why) g = absurd (let e = g in cc)

  -- the one row is tried
  pub tries_one : (top : ℤ) (done : Written × ℤ) → IsSound kept_schema done.0.trees
      → TriesEach task Abort (on_conflict ∷ []) ((Null ∷ Int (pos kind) ∷ Int (pos k1) ∷ Int (pos k2) ∷ Blob body ∷ []) ∷ []) top (nothing db) (Ok done)
      → HasPut done.0.trees
  tries_one top done after h =
      let one = went h in
      let trees : done.0.trees ≡ one.0.trees = ap (λ (p : Written × ℤ). p.0.trees) (same_value one.2) in
      let put = tries (next_rowid (db 0)) one.0 (subst (λ t. IsSound kept_schema t) trees after)
      (subst (λ l. Tries task Abort (on_conflict ∷ []) l db (Ok one.0)) (chosen_line (db 0) kind k1 k2 body) one.1) in
      subst (λ t. HasPut t) (sym trees) put

pub upserts : (old new : State) (kind k1 k2 : ℕ) (body : List ℕ) (count : ℕ) → kind ≤ 255
    → k1 ≤ 4294967295 → k2 ≤ 4294967295 → old.now.schema ≡ kept_schema
    → IsSound kept_schema old.now.trees → AreNumbered (old.now.trees 0)
    → Executes upsert_text (Int (pos kind) ∷ Int (pos k1) ∷ Int (pos k2) ∷ Blob body ∷ []) old new (Ok count)
    → (new.now.schema ≡ kept_schema) × IsSound kept_schema new.now.trees × AreNumbered (new.now.trees 0)
    × (kept_rows (new.now.trees 0) ≡ put row_key (record { kind = kind; k1 = k1; k2 = k2; body = body }) (kept_rows (old.now.trees 0)))
upserts old new kind k1 k2 body count fits0 fits1 fits2 has sound numbered h =
    let params : Line = Int (pos kind) ∷ Int (pos k1) ∷ Int (pos k2) ∷ Blob body ∷ [] in
    let db = old.now.trees in
    let command = InsertOr 0 Abort (Values given_terms 5) (on_conflict ∷ []) in
    let text = statement_of upsert_text (understood kept_schema upsert_text) in
    let w = runs_as upsert_text params old new kept_schema has command upsert_is upsert_plain count h in
    let done = went (subst (λ s. Does old.step_limit (mode_of old) params (record old.now { schema = s }) text None command (Ok (w.tally, new.now))) has w.changed) in
    let now = ap (λ (p : Tally × Database). p.1) (same_value (went (went done.2).2).2) in
    let schema : new.now.schema ≡ kept_schema = ap (λ (d : Database). d.schema) now in
    let given = went done.1 in
    let counter = went given.2 in
    let tried = went counter.2 in
    let counted = went tried.2 in
    let trees : new.now.trees ≡ tried.0.0.trees = ap (λ (d : Database). d.trees) now ∙ ap (λ (it : Written). it.trees) (same_value counted.2) ∙ same_value counted.1 in
    let after : IsSound kept_schema tried.0.0.trees = subst (λ t. IsSound kept_schema t) trees (subst (λ s. IsSound s new.now.trees) schema w.sound) in
    let put = tries_one old.step_limit Enforced db sound numbered kind k1 k2 body fits0 fits1 fits2 (count_of counter.0) tried.0 after
    (subst (λ r. TriesEach (record { limit = old.step_limit; keys = Enforced; schema = kept_schema; table = kept_table; params = params }) Abort (on_conflict ∷ []) r (count_of counter.0) (nothing db) (Ok tried.0)) given.1.1 tried.1) in
    (schema, subst (λ s. IsSound s new.now.trees) schema w.sound, subst (λ t. AreNumbered (t 0)) (sym trees) put.0, ap (λ (t : Trees). kept_rows (t 0)) trees ∙ put.1)
