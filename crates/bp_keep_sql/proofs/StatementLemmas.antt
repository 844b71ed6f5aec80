-- What the statements' clauses need, each over whatever was answered.
use Rattle.std.proofs.Common.{zero, suc, ◌+◌, length, take, get_or, ◌≡◌, ◌⊎◌, ◌<◌, ℕ, pos, Bool, true, false, List, [], ◌∷◌, map, Option, Some, None, Result, Ok, Err, OnOk, OnErr, IfOk, IfErr, IsErr, IsTrue, refl, sym, ap, subst, ◌∙◌, inl, inr, arith}
use Rattle.std.proofs.lemmas.Bool.{cases_Bool}
use Rattle.sqlite_value.specs.declared.value.Value.TheVariants.{Int, Blob}
use Rattle.sqlite_value.specs.Order.{Row as Line}
use Rattle.sqlite_schema.specs.declared.command.Returning.{Returning}
use Rattle.sqlite_schema.specs.declared.schema.Schema.{Schema}
use Rattle.sqlite_resolve.specs.Compile.{first}
use Rattle.sqlite_resolve.specs.declared.compiled.Compiled.{Compiled}
use Rattle.sqlite_catalog.specs.Listing.{IsSound}
use Rattle.sqlite.specs.declared.error.Error.{Error}
use Rattle.sqlite.specs.State.{State, Executes, ExecutesIn, ExecutesInside, IsLive, IsNotRun, IsUnchanged, IsRolledBack, KeepsCommit, RunsAlone, shows_rows, FailsToQuery, FailsToShow, Shown}
use Rattle.sqlite.specs.Steps.{FailsToCommit, Outlines}
use Rattle.sqlite.specs.Listing.{understood}
use Rattle.sqlite.specs.Outline.{Outline}
use Rattle.bp_core.specs.declared.kept.Row.{Row}
use Rattle.bp_core.specs.declared.kept.Put.{Put}
use Rattle.bp_core.specs.Sorted.{put, without, ascends, row_key}
use Rattle.bp_keep.specs.Puts.{put_all, put_one}
use Rattle.bp_keep_sql.specs.Table.{kept_schema, no_schema}
use Rattle.bp_keep_sql.specs.Lines.{kept_rows, shown_row}
use Rattle.bp_keep_sql.specs.Rowids.{AreNumbered}
use Rattle.bp_keep_sql.specs.Keeps.{Keeps}
use Rattle.bp_keep_sql.proofs.TextLemmas.{create_text, upsert_text, delete_text, select_text, find_text, no_find}
use Rattle.bp_keep_sql.proofs.KindLemmas.{head_writes, keeps_schema, head_reads, reads_nothing, select_reads, creates_mode}
use Rattle.bp_keep_sql.proofs.ReadLemmas.{creates, stays, selects, selects_nothing}
use Rattle.bp_keep_sql.proofs.UpsertLemmas.{upserts}
use Rattle.bp_keep_sql.proofs.DeleteLemmas.{deletes}

-- ---- what a refusal leaves

run_left : (in_batch : Bool) (sql : List ℕ) (c : Compiled) (params : Line) (old new : State)
    (e : Error) → RunsAlone in_batch old new sql c params (Err e)
    → IsUnchanged old new ⊎ IsRolledBack old new
run_left in_batch sql c params old new e h = elim (cases_Bool (shows_rows in_batch c)) [
  | inl shows ↦ inl (rw shows at h).1
  | inr runs ↦ elim (rw runs at h) [ inl refused ↦ inl refused.1 | inr failed ↦ inr failed.3 ]
]

pub not_run_left : (sql : List ℕ) (params : Line) (old new : State) (e : Error)
    → IsNotRun old new sql params e → IsUnchanged old new ⊎ IsRolledBack old new
unfolding IsNotRun
not_run_left sql params old new e (inl h) = inl h.1
not_run_left sql params old new e (inr h) = inr h.3

refused_left : (sql : List ℕ) (params : Line) (old new : State) (e : Error)
    → Executes sql params old new (Err e) → IsUnchanged old new ⊎ IsRolledBack old new
unfolding ExecutesIn
refused_left sql params old new e (inl h) = not_run_left sql params old new e h
refused_left sql params old new e (inr h) = run_left false sql h.0 _ old new e h.2

shown_left : (o : Option Returning) (sql : List ℕ) (c : Compiled) (params : Line)
    (old new : State) (e : Error) → FailsToShow old new sql c params e o
    → IsUnchanged old new ⊎ IsRolledBack old new
shown_left None sql c params old new e h = inl h.3
shown_left (Some what) sql c params old new e (inl h) = inl h.1
shown_left (Some what) sql c params old new e (inr h) = inr h.3

unread_left : (sql : List ℕ) (params : Line) (old new : State) (e : Error)
    → FailsToQuery sql params old new e → IsUnchanged old new ⊎ IsRolledBack old new
unfolding FailsToQuery
unread_left sql params old new e (inl h) = not_run_left sql params old new e h
unread_left sql params old new e (inr h) =
    shown_left h.0.returning sql h.0 _ old new e h.2

-- ---- the table is made

pub made : (old new : State) (r : Result ℕ Error) → old.now.schema ≡ no_schema
    → Executes create_text [] old new r → OnOk r (Keeps new.now [])
made old new (Err e) has h = tt
made old new (Ok count) has h =
    let e = creates old new count has h in
    record {
      schema = e.0;
      sound = subst (λ s. IsSound s new.now.trees) e.0 e.2;
      numbered = subst AreNumbered (sym e.1)
          (record { ints = λ x none. absurd none; one = λ x y none. absurd none });
      rows_are = ap kept_rows e.1;
    }

pub create_keeps : (old new : State) (r : Result ℕ Error) → old.now.schema ≡ kept_schema
    → Executes create_text [] old new r → IsUnchanged old new ⊎ IsRolledBack old new
create_keeps old new (Ok count) has h = inl (stays old new count has h)
create_keeps old new (Err e) has h = refused_left create_text [] old new e h

pub create_left : (old new : State) (r : Result ℕ Error) → Executes create_text [] old new r
    → OnErr r (IsUnchanged old new ⊎ IsRolledBack old new)
create_left old new (Ok count) h = tt
create_left old new (Err e) h = refused_left create_text [] old new e h

pub create_mode : (old new : State) (r : Result ℕ Error) → old.in_transaction ≡ false
    → Executes create_text [] old new r → new.in_transaction ≡ false
create_mode old new (Ok count) auto h = creates_mode [] old new count h ∙ auto
create_mode old new (Err e) auto h = elim (refused_left create_text [] old new e h) [
  | inl same ↦ same.0.mode ∙ auto
  | inr back ↦ back.autocommit
]

-- ---- the table is looked for

pub not_found : (outline : Outline) (schema : Schema)
    → Outlines (understood schema find_text) outline → schema ≡ no_schema → ⊥
not_found outline schema h has =
    subst (λ c. Outlines c outline) (ap (λ s. understood s find_text) has ∙ no_find) h

-- ---- writes inside a transaction

pub upserted : (old new : State) (kind k1 k2 : ℕ) (body : List ℕ) (r : Result ℕ Error)
    → kind < 256 → k1 < 4294967296 → k2 < 4294967296 → (rows : List Row) → Keeps old.now rows
    → ExecutesInside 0 upsert_text
    (Int (pos kind) ∷ Int (pos k1) ∷ Int (pos k2) ∷ Blob body ∷ []) old new r
    → OnOk r (Keeps new.now
    (put row_key (record { kind = kind; k1 = k1; k2 = k2; body = body }) rows))
upserted old new kind k1 k2 body (Err e) a b c rows keeps h = tt
upserted old new kind k1 k2 body (Ok count) a b c rows keeps h =
    let u = upserts old new kind k1 k2 body count (omega arith) (omega arith) (omega arith)
    keeps.schema keeps.sound keeps.numbered h.0 in
    record {
      schema = u.0;
      sound = u.1;
      numbered = u.2;
      rows_are = u.3 ∙ ap (put row_key _) keeps.rows_are;
    }

pub deleted : (old new : State) (kind k1 k2 : ℕ) (r : Result ℕ Error)
    → k1 < 4294967296 → k2 < 4294967296 → (rows : List Row) → Keeps old.now rows
    → ExecutesInside 0 delete_text (Int (pos kind) ∷ Int (pos k1) ∷ Int (pos k2) ∷ []) old new r
    → OnOk r (Keeps new.now (without row_key
    (row_key (record { kind = kind; k1 = k1; k2 = k2; body = [] })) rows))
deleted old new kind k1 k2 (Err e) b c rows keeps h = tt
deleted old new kind k1 k2 (Ok count) b c rows keeps h =
    let u = deletes old new kind k1 k2 count (omega arith) (omega arith)
    keeps.schema keeps.sound keeps.numbered h.0 in
    record {
      schema = u.0;
      sound = u.1;
      numbered = u.2;
      rows_are = u.3 ∙ ap (without row_key _) keeps.rows_are;
    }

keeps_commit : (held : ℕ) (sql : List ℕ) (params : Line) (old new : State) (r : Result ℕ Error)
    → ExecutesInside held sql params old new r → KeepsCommit old new
keeps_commit held sql params old new (Ok count) h =
    record { was_open = λ _. h.1.was_open; committed = λ _. h.1.committed_is }
keeps_commit held sql params old new (Err e) (inl h) = elim h.1 [
  | inl same ↦ record { was_open = λ _. same.0.was_open; committed = λ _. same.0.committed_is }
  | inr back ↦ record { was_open = back.was_open; committed = λ now. (back.undone now).1 }
]
keeps_commit held sql params old new (Err e) (inr h) =
    record { was_open = λ _. h.2.0.was_open; committed = λ _. h.2.0.committed_is }

-- what only happens inside a transaction; once one has ended nothing does
pub inside_left : (sql : List ℕ) (params : Line) (old new : State) (r : Result ℕ Error)
    → (old.in_transaction ≡ false → ((e : Error) × (r ≡ Err e)) × KeepsCommit old new)
    → (IsTrue old.in_transaction → ExecutesInside 0 sql params old new r) → KeepsCommit old new
inside_left sql params old new r ended runs = elim (cases_Bool old.in_transaction) [
  | inl within ↦ keeps_commit 0 sql params old new r (runs within)
  | inr out ↦ (ended out).1
]

pub same_keeps : (old new : State) → new ≡ old → KeepsCommit old new
same_keeps old new same =
    subst (λ s. KeepsCommit old s) (sym same) (record { was_open = λ o. o; committed = λ _. refl })

pub inside_ok : (old new : State) (P : Type 0) (r : Result ℕ Error)
    → (old.in_transaction ≡ false → (e : Error) × (r ≡ Err e))
    → (IsTrue old.in_transaction → OnOk r P) → OnOk r P
inside_ok old new P r ended runs = elim (cases_Bool old.in_transaction) [
  | inl within ↦ runs within
  | inr out ↦ let e = ended out in rw e.1 tt
]

-- a statement that was made leaves its transaction open
pub stays_inside : (sql : List ℕ) (params : Line) (old new : State) (r : Result ℕ Error)
    → ExecutesInside 0 sql params old new r → OnOk r (IsTrue new.in_transaction)
stays_inside sql params old new (Ok count) h = h.1.mode
stays_inside sql params old new (Err e) h = tt

pub schema_stays : (sql : List ℕ) (params : Line) (old new : State) (r : Result ℕ Error)
    → head_writes (first sql) ≡ true → ExecutesInside 0 sql params old new r
    → OnOk r (new.now.schema ≡ old.now.schema)
schema_stays sql params old new (Ok count) head h = keeps_schema sql params old new count head h.0
schema_stays sql params old new (Err e) head h = tt

-- ---- reads

pub reads_left : {A : Type 0} (items : A → List Line) (sql : List ℕ) (params : Line)
    (old new : State) (r : Result A Error) → head_reads (first sql) ≡ true
    → IfOk r (λ a. Shown sql params old new (items a))
    → IfErr r (λ e. FailsToQuery sql params old new e)
    → IsUnchanged old new ⊎ IsRolledBack old new
reads_left items sql params old new (Ok a) head ok err =
    inl (reads_nothing sql params old new (items a) head ok)
reads_left items sql params old new (Err e) head ok err = unread_left sql params old new e err

pub reads_same : {A : Type 0} (items : A → List Line) (sql : List ℕ) (params : Line)
    (old new : State) (r : Result A Error) → head_reads (first sql) ≡ true
    → IfOk r (λ a. Shown sql params old new (items a)) → OnOk r (new.now ≡ old.now)
reads_same items sql params old new (Ok a) head ok =
    (reads_nothing sql params old new (items a) head ok).0.now_is
reads_same items sql params old new (Err e) head ok = tt

pub select_rows_are : {A : Type 0} (items : A → List Line) (old new : State) (r : Result A Error)
    → IsLive old → IfOk r (λ a. Shown select_text [] old new (items a))
    → old.now.schema ≡ kept_schema → AreNumbered (old.now.trees 0)
    → IfOk r (λ a. ascends row_key 0 (map shown_row (items a)) ≡ true
    → map shown_row (items a) ≡ kept_rows (old.now.trees 0))
select_rows_are items old new (Ok a) live h has numbered =
    let opened = (reads_nothing select_text [] old new (items a) select_reads h).0.was_open in
    let sound = subst (λ s. IsSound s old.now.trees) has (live opened).0 in
    selects old new (items a) has sound numbered h
select_rows_are items old new (Err e) live h has numbered = tt

pub select_lacking : {A : Type 0} (items : A → List Line) (old new : State) (r : Result A Error)
    → IfOk r (λ a. Shown select_text [] old new (items a)) → old.now.schema ≡ no_schema → IsErr r
select_lacking items old new (Ok a) h has = absurd (selects_nothing old new (items a) has h)
select_lacking items old new (Err e) h has = refl

-- ---- a commit

pub commits_then : (a b c : State) → KeepsCommit a b → KeepsCommit b c → KeepsCommit a c
commits_then a b c p q = record {
  was_open = λ o. p.was_open (q.was_open o);
  committed = λ o. q.committed o ∙ p.committed (q.was_open o);
}

-- one more of the puts was made
put_all-more : (changes : List Put) (at : ℕ) (change : Put) (rows : List Row)
    → at < length changes → change ≡ get_or changes at change
    → put_all (take (suc at) changes) rows ≡ put_one change (put_all (take at changes) rows)
put_all-more [] at change rows within is = absurd (omega arith)
put_all-more (first ∷ changes) zero change rows within is = ap (λ c. put_one c rows) (sym is)
put_all-more (first ∷ changes) (suc at) change rows within is =
    put_all-more changes at change (put_one first rows) (omega arith) is

pub put_all-next : (changes : List Put) (at : ℕ) (change : Put) (rows : List Row)
    → at < length changes → change ≡ get_or changes at change
    → put_all (take (at + 1) changes) rows ≡ put_one change (put_all (take at changes) rows)
put_all-next changes at change rows within is =
    let e : at + 1 ≡ suc at = omega arith in
    ap (λ n. put_all (take n changes) rows) e ∙ put_all-more changes at change rows within is

-- a commit that is refused leaves what the transaction began with
pub uncommitted : (first begun old new : State) (r : Result (Unit {0}) Error)
    → IfErr r (FailsToCommit old new) → IsTrue old.in_transaction → KeepsCommit begun old
    → begun.committed ≡ first.committed → (IsTrue first.is_open → first.now ≡ first.committed)
    → (IsTrue begun.is_open → IsTrue first.is_open) → IsTrue new.is_open
    → OnErr r (new.now ≡ first.now)
uncommitted first begun old new (Ok u) h within kept same settled opens now = tt
uncommitted first begun old new (Err e) (inl failed) within kept same settled opens now =
    let back = failed.3 in
    let was = back.was_open now in
    (back.undone now).0 ∙ kept.committed was ∙ same ∙ sym (settled (opens (kept.was_open was)))
uncommitted first begun old new (Err e) (inr ended) within kept same settled opens now =
    absurd (let f : true ≡ false = sym within ∙ ended.1 in cc)
