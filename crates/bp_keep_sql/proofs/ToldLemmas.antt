-- What a keeper over a database tells.
use Rattle.std.proofs.Common.{◌≡◌, ◌≤◌, ◌⊎◌, ℕ, Bool, true, false, not, ◌&&◌, if◌then◌else◌, length, List, [], Option, Some, None, option_map, Result, Ok, Err, IfSome, IfOk, IsErr, IsTrue, OnOk, OnErr, refl, sym, ap, subst, ◌∙◌, inl, inr, arith}
use Rattle.std.proofs.lemmas.Bool.{and_parts, and_from, cases_Bool}
use Rattle.sqlite_trees.proofs.Doubt.{clean_of, no_doubt}
use Rattle.sqlite_trees.specs.View.{doubt}
use Rattle.sqlite_schema.specs.declared.schema.Schema.{Schema}
use Rattle.sqlite_catalog.specs.Listing.{IsSound}
use Rattle.sqlite.specs.Effect.{Database}
use Rattle.sqlite.specs.State.{State, HasCleanDisk, IsLive}
use Rattle.sqlite.specs.declared.error.Error.{Error}
use Rattle.bp_core.specs.declared.kept.Row.{Row}
use Rattle.bp_core.specs.declared.kept.Put.{Put}
use Rattle.bp_keep.specs.Keeper.{SameRows}
use Rattle.bp_keep.specs.Puts.{put_all}
use Rattle.bp_keep_sql.specs.Table.{kept_schema, no_schema}
use Rattle.bp_keep_sql.specs.Lines.{kept_rows}
use Rattle.bp_keep_sql.specs.Rowids.{AreNumbered}
use Rattle.bp_keep_sql.specs.Keeps.{Keeps}
use Rattle.bp_keep_sql.specs.Effects.{Leaves, KeepsTable}
use Rattle.bp_keep_sql.specs.Schemas.{same_schema}
use Rattle.bp_keep_sql.specs.Told.{rows_of_database, rows_told, IsNumbered}
use Rattle.bp_keep_sql.proofs.SchemaLemmas.{same_schema-true, same_schema-itself}

-- what told rows are
pub record Tells (s : State) (rows : List Row) : Type 0 where
  pub clean : HasCleanDisk s
  pub is_open : IsTrue s.is_open
  pub outside : s.in_transaction ≡ false
  pub rows_are : ((s.now.schema ≡ no_schema) × (rows ≡ []))
      ⊎ ((s.now.schema ≡ kept_schema) × (rows ≡ kept_rows (s.now.trees 0)))

none_some : {T : Type 0} {x : T} {C : Type 0} → ◌≡◌ {A = Option T} None (Some x) → C
none_some e = absurd (cc)

some_same : {T : Type 0} {x y : T} → ◌≡◌ {A = Option T} (Some x) (Some y) → x ≡ y
some_same e = cc

table_told : (db : Database) (rows : List Row)
    → (if same_schema db.schema kept_schema then Some (kept_rows (db.trees 0)) else None) ≡ Some rows
    → (db.schema ≡ kept_schema) × (rows ≡ kept_rows (db.trees 0))
table_told db rows h = elim (cases_Bool (same_schema db.schema kept_schema)) [
  | inl is ↦ (same_schema-true _ _ is, sym (some_same (rw is at h)))
  | inr off ↦ none_some (rw off at h)
]

rows_told_of : (db : Database) (rows : List Row) → rows_of_database db ≡ Some rows
    → ((db.schema ≡ no_schema) × (rows ≡ []))
    ⊎ ((db.schema ≡ kept_schema) × (rows ≡ kept_rows (db.trees 0)))
rows_told_of db rows h = elim (cases_Bool (same_schema db.schema no_schema)) [
  | inl is ↦ inl (same_schema-true _ _ is, sym (some_same (rw is at h)))
  | inr off ↦ inr (table_told db rows (rw off at h))
]

not_so : (b : Bool) → not b ≡ true → b ≡ false
not_so false h = refl
not_so true h = sym h

-- what told rows are
pub told : (s : State) (rows : List Row) → rows_told s ≡ Some rows → Tells s rows
told s rows h = elim (cases_Bool (s.is_clean && (s.is_open && not s.in_transaction))) [
  | inl is ↦
      let parts = and_parts s.is_clean _ is in
      let open_parts = and_parts s.is_open _ parts.1 in
      record {
        clean = no_doubt s.is_clean parts.0;
        is_open = open_parts.0;
        outside = not_so s.in_transaction open_parts.1;
        rows_are = rows_told_of s.now rows (rw is at h);
      }
  | inr off ↦ none_some (rw off at h)
]

-- the same, of an option that may be none
pub if_told : (s : State) (P : List Row → Type 0) → ((rows : List Row) → Tells s rows → P rows)
    → IfSome (rows_told s) P
if_told s P f = go (rows_told s) refl
  where
    go : (o : Option (List Row)) → rows_told s ≡ o → IfSome o P
    go None e = tt
    go (Some rows) e = f rows (told s rows e)

kept_other : kept_schema ≡ no_schema → ⊥
kept_other e = let n : 1 ≡ 0 = ap (λ (s : Schema). length s.tables) e in omega (arith, n)

pub tells_so : (s : State) (rows : List Row) → Tells s rows → rows_told s ≡ Some rows
tells_so s rows t =
    let autocommit : not s.in_transaction ≡ true = ap not t.outside in
    let shows : (s.is_clean && (s.is_open && not s.in_transaction)) ≡ true =
    and_from s.is_clean _ (clean_of s.is_clean t.clean) (and_from s.is_open _ t.is_open autocommit) in
    rw shows (elim t.rows_are [
      | inl none ↦ rw (same_schema-itself s.now.schema no_schema none.0) (ap Some (sym none.1))
      | inr table ↦ elim (cases_Bool (same_schema s.now.schema no_schema)) [
        | inl empty ↦ absurd (kept_other (sym table.0 ∙ same_schema-true _ _ empty))
        | inr other ↦
            rw (other, same_schema-itself s.now.schema kept_schema table.0) (ap Some (sym table.1))
      ]
    ])

agree : (s : State) (a b : List Row) → Tells s a → Tells s b → a ≡ b
agree s a b t u = some_same (sym (tells_so s a t) ∙ tells_so s b u)

-- ---- calls that leave the database

pub numbered_left : (numbered : Bool) (old new : State) → Leaves old new → IsNumbered numbered old
    → IsNumbered numbered new
numbered_left numbered old new leaves known is clean now has =
    let same = leaves.same clean now in
    let before : HasCleanDisk old = omega (arith, leaves.clean, clean) in
    subst (λ (db : Database). AreNumbered (db.trees 0)) (sym same)
    (known is before (leaves.was_open clean now) (ap (λ (db : Database). db.schema) (sym same) ∙ has))

told_of : (old new : State) → HasCleanDisk old → IsTrue old.is_open → old.in_transaction ≡ false
    → new.now ≡ old.now → (rows : List Row) → Tells new rows → Tells old rows
told_of old new clean opened outside same rows t = record {
  clean = clean;
  is_open = opened;
  outside = outside;
  rows_are = subst (λ (db : Database). ((db.schema ≡ no_schema) × (rows ≡ []))
      ⊎ ((db.schema ≡ kept_schema) × (rows ≡ kept_rows (db.trees 0)))) same t.rows_are;
}

pub told_left : (old new : State) → Leaves old new → (rows : List Row) → Tells new rows
    → Tells old rows
told_left old new leaves rows t =
    told_of old new (omega (arith, leaves.clean, t.clean)) (leaves.was_open t.clean t.is_open)
    (leaves.outside t.outside) (leaves.same t.clean t.is_open) rows t

pub still_told : (old new : State) → Leaves old new
    → IfSome (rows_told new) (λ now. rows_told old ≡ Some now)
still_told old new leaves =
    if_told new (λ now. rows_told old ≡ Some now)
    (λ now t. tells_so old now (told_left old new leaves now t))

-- ---- a load

same_told : (old new : State)
    → ((rows now : List Row) → Tells old rows → Tells new now → now ≡ rows)
    → SameRows (rows_told old) (rows_told new)
same_told old new f =
    if_told old (λ rows. IfSome (rows_told new) (λ now. now ≡ rows))
    (λ rows t. if_told new (λ now. now ≡ rows) (λ now u. f rows now t u))

pub same_itself : (s : State) → SameRows (rows_told s) (rows_told s)
same_itself s = same_told s s (λ rows now t u. agree s now rows u t)

pub same_left : (old new : State) → Leaves old new → SameRows (rows_told old) (rows_told new)
same_left old new leaves =
    same_told old new (λ rows now t u. agree old now rows (told_left old new leaves now u) t)

-- a table that is there keeps its rows
same_kept : (old new : State) → KeepsTable old new → old.now.schema ≡ kept_schema
    → (rows now : List Row) → Tells old rows → Tells new now → now ≡ rows
same_kept old new keeps has rows now t u =
    agree old now rows
    (told_of old new t.clean t.is_open t.outside (keeps.same u.clean u.is_open has) now u) t

-- one that was made has none
same_new : (old new : State) → Keeps new.now [] → (rows now : List Row) → rows ≡ []
    → Tells new now → now ≡ rows
same_new old new made rows now none u = elim u.rows_are [
  | inl empty ↦ empty.1 ∙ sym none
  | inr table ↦ table.1 ∙ made.rows_are ∙ sym none
]

-- the table was made in a database without tables, or left, or the call was refused
pub same_created : (old new : State) (r : Result ℕ Error) → KeepsTable old new
    → (HasCleanDisk new → old.now.schema ≡ no_schema → OnOk r (Keeps new.now []))
    → OnErr r (Leaves old new) → SameRows (rows_told old) (rows_told new)
same_created old new (Err e) keeps made left = same_left old new left
same_created old new (Ok count) keeps made left = same_told old new (λ rows now t u.
    elim t.rows_are [
      | inl none ↦ same_new old new (made u.clean none.0) rows now none.1 u
      | inr table ↦ same_kept old new keeps table.0 rows now t u
    ])

same_at : (a b : Option (List Row)) (x y : List Row) → SameRows a b → a ≡ Some x → b ≡ Some y
    → y ≡ x
same_at None b x y h p q = none_some p
same_at (Some r) None x y h p q = none_some q
same_at (Some r) (Some s) x y h p q = sym (some_same q) ∙ h ∙ some_same p

pub same_then : (old mid new : State) → SameRows (rows_told old) (rows_told mid) → Leaves mid new
    → SameRows (rows_told old) (rows_told new)
same_then old mid new same leaves = same_told old new (λ rows now t u.
    same_at _ _ rows now same (tells_so old rows t) (tells_so mid now (told_left mid new leaves now u)))

-- nothing is said of a refusal
pub unloaded : {A E : Type 0} (items : A → List Row) (o : Option (List Row)) (e : E)
    → IfSome o (λ rows. IfOk (Err e) (λ a. items a ≡ rows))
unloaded items None e = tt
unloaded items (Some rows) e = tt

-- what the table had is what is told as the load ends
pub loads_told : {A : Type 0} (items : A → List Row) (numbered : Bool) (mid new : State)
    (r : Result A Error) → IsTrue numbered → IsNumbered numbered mid → Leaves mid new
    → (HasCleanDisk new → mid.now.schema ≡ kept_schema → AreNumbered (mid.now.trees 0)
    → IfOk r (λ a. items a ≡ kept_rows (mid.now.trees 0)))
    → (HasCleanDisk new → mid.now.schema ≡ no_schema → IsErr r)
    → IfSome (rows_told new) (λ rows. IfOk r (λ a. items a ≡ rows))
loads_told items numbered mid new (Err e) is known leaves rows lacking =
    unloaded items (rows_told new) e
loads_told items numbered mid new (Ok a) is known leaves rows lacking =
    if_told new (λ now. items a ≡ now) (λ now u.
    let t = told_left mid new leaves now u in
    elim t.rows_are [
      | inl none ↦ absurd (let e : false ≡ true = lacking u.clean none.0 in cc)
      | inr table ↦ rows u.clean table.0 (known is t.clean t.is_open table.0) ∙ sym table.1
    ])

-- ---- a commit

module _ (numbered : Bool) (old new : State) (changes : List Put)
    (live : IsLive old) (known : IsNumbered numbered old)
    (cleaner : doubt old.is_clean ≤ doubt new.is_clean)
    (was_open : HasCleanDisk new → IsTrue new.is_open → IsTrue old.is_open)
    (schema : HasCleanDisk new → new.now.schema ≡ old.now.schema)
    (rows : HasCleanDisk new → (rows : List Row) → Keeps old.now rows
    → Keeps new.now (put_all changes rows)) where
  -- the table was there before
  kept_before : IsTrue numbered → HasCleanDisk new → IsTrue new.is_open
      → new.now.schema ≡ kept_schema → Keeps old.now (kept_rows (old.now.trees 0))
  kept_before is clean now has =
      let had : old.now.schema ≡ kept_schema = sym (schema clean) ∙ has in
      let opened = was_open clean now in
      record {
        schema = had;
        sound = subst (λ s. IsSound s old.now.trees) had (live opened).0;
        numbered = known is (omega (arith, cleaner, clean)) opened had;
        rows_are = refl;
      }

  pub numbered_made : IsNumbered numbered new
  numbered_made is clean now has = (rows clean _ (kept_before is clean now has)).numbered

  pub commits_told : IsTrue numbered → old.in_transaction ≡ false
      → (HasCleanDisk new → old.now.schema ≡ no_schema → ⊥)
      → IfSome (rows_told new) (λ now. option_map (put_all changes) (rows_told old) ≡ Some now)
  commits_told is outside lacking =
      if_told new (λ now. option_map (put_all changes) (rows_told old) ≡ Some now)
      (λ now u. elim u.rows_are [
        | inl none ↦ absurd (lacking u.clean (sym (schema u.clean) ∙ none.0))
        | inr table ↦
            let keeps = kept_before is u.clean u.is_open table.0 in
            let before : Tells old (kept_rows (old.now.trees 0)) = record {
              clean = omega (arith, cleaner, u.clean);
              is_open = was_open u.clean u.is_open;
              outside = outside;
              rows_are = inr (keeps.schema, refl);
            } in
            ap (option_map (put_all changes)) (tells_so old _ before)
            ∙ ap Some (sym (rows u.clean _ keeps).rows_are ∙ sym table.1)
      ])

none_mapped : {A B : Type 0} (f : A → B) (y : B) → option_map f None ≡ Some y → ⊥
none_mapped f y h = none_some h

-- rows that were told after the first call were told before it
told_first : (first old new : State) (changes : List Put) (now : List Row) → Leaves first old
    → option_map (put_all changes) (rows_told old) ≡ Some now
    → option_map (put_all changes) (rows_told first) ≡ Some now
told_first first old new changes now leaves made = go (rows_told old) refl
  where
    go : (o : Option (List Row)) → rows_told old ≡ o
        → option_map (put_all changes) (rows_told first) ≡ Some now
    go None e = absurd (none_mapped (put_all changes) now (rw e at made))
    go (Some rows) e =
        let before = tells_so first rows (told_left first old leaves rows (told old rows e)) in
        rw before (rw e at made)

-- a table stays numbered where puts were made, and where they were refused
pub numbered_after : (numbered : Bool) (old new : State) (changes : List Put)
    (r : Result (Unit {0}) Error) → IsLive old → IsNumbered numbered old
    → doubt old.is_clean ≤ doubt new.is_clean
    → (HasCleanDisk new → IsTrue new.is_open → IsTrue old.is_open)
    → (HasCleanDisk new → OnOk r (new.now.schema ≡ old.now.schema))
    → (HasCleanDisk new → (rows : List Row) → Keeps old.now rows
    → OnOk r (Keeps new.now (put_all changes rows)))
    → OnErr r (Leaves old new) → IsNumbered numbered new
numbered_after numbered old new changes (Ok u) live known clean was_open schema rows left =
    numbered_made numbered old new changes live known clean was_open schema rows
numbered_after numbered old new changes (Err e) live known clean was_open schema rows left =
    numbered_left numbered old new left known

-- what is told after puts were made over a table that a call before them numbered
pub told_after : (numbered : Bool) (first old new : State) (changes : List Put)
    (r : Result (Unit {0}) Error) → IsTrue numbered → Leaves first old → IsLive old
    → IsNumbered numbered old → doubt old.is_clean ≤ doubt new.is_clean
    → (HasCleanDisk new → IsTrue new.is_open → IsTrue old.is_open)
    → (HasCleanDisk new → OnOk r (new.now.schema ≡ old.now.schema))
    → (HasCleanDisk new → (rows : List Row) → Keeps old.now rows
    → OnOk r (Keeps new.now (put_all changes rows)))
    → OnOk r (old.in_transaction ≡ false)
    → (HasCleanDisk new → old.now.schema ≡ no_schema → IsErr r)
    → OnOk r (IfSome (rows_told new)
    (λ now. option_map (put_all changes) (rows_told first) ≡ Some now))
told_after numbered first old new changes (Err e) is leaves live known clean was_open schema rows
    outside lacking = tt
told_after numbered first old new changes (Ok u) is leaves live known clean was_open schema rows
    outside lacking =
    let told_so = commits_told numbered old new changes live known clean was_open schema rows is outside
    (λ fine has. let e : false ≡ true = lacking fine has in cc) in
    if_told new (λ now. option_map (put_all changes) (rows_told first) ≡ Some now)
    (λ now t. told_first first old new changes now leaves (subst
    (λ (o : Option (List Row)). IfSome o (λ n. option_map (put_all changes) (rows_told old) ≡ Some n))
    (tells_so new now t) told_so))
