-- Calls that leave a database, one after another.
use Rattle.std.proofs.Common.{◌≡◌, ◌≤◌, ◌⊎◌, ℕ, Bool, true, false, not, IsTrue, Result, Ok, Err, OnOk, OnErr, refl, sym, ◌∙◌, inl, inr, arith}
use Rattle.sqlite_trees.specs.View.{doubt}
use Rattle.sqlite.specs.declared.error.Error.{Error}
use Rattle.sqlite.specs.State.{State, HasCleanDisk, IsUnchanged, IsRolledBack}
use Rattle.bp_keep_sql.specs.Table.{kept_schema}
use Rattle.bp_keep_sql.specs.Effects.{Leaves, KeepsTable}

-- a test said so
pub outside_of : (inside answer : Bool) → answer ≡ not inside → answer ≡ true → inside ≡ false
outside_of false answer is so = refl
outside_of true answer is so = sym so ∙ is

pub leaves_itself : (a : State) → Leaves a a
leaves_itself a = record {
  clean = omega arith;
  mode = λ _ auto. auto;
  outside = λ auto. auto;
  was_open = λ _ o. o;
  same = λ _ _. refl;
}

pub leaves_then : (a b c : State) → Leaves a b → Leaves b c → Leaves a c
leaves_then a b c p q =
    let early : HasCleanDisk c → HasCleanDisk b = λ clean. omega (arith, q.clean, clean) in
    record {
      clean = omega (arith, p.clean, q.clean);
      mode = λ clean auto. q.mode clean (p.mode (early clean) auto);
      outside = λ auto. p.outside (q.outside auto);
      was_open = λ clean o. p.was_open (early clean) (q.was_open clean o);
      same = λ clean o. q.same clean o ∙ p.same (early clean) (q.was_open clean o);
    }

-- the same where the second call was refused
pub errs_then : (a b c : State) (r : Result (Unit {0}) Error) → Leaves a b → OnErr r (Leaves b c)
    → OnErr r (Leaves a c)
errs_then a b c (Ok u) p q = tt
errs_then a b c (Err e) p q = leaves_then a b c p q

pub leaves_keeps : (a b : State) → Leaves a b → KeepsTable a b
leaves_keeps a b p =
    record {
      clean = p.clean;
      mode = p.mode;
      was_open = λ clean o has. p.was_open clean o;
      same = λ clean o has. p.same clean o;
    }

pub keeps_itself : (a : State) → KeepsTable a a
keeps_itself a = leaves_keeps a a (leaves_itself a)

pub keeps_leaves : (a b c : State) → KeepsTable a b → Leaves b c → KeepsTable a c
keeps_leaves a b c p q =
    let early : HasCleanDisk c → HasCleanDisk b = λ clean. omega (arith, q.clean, clean) in
    record {
      clean = omega (arith, p.clean, q.clean);
      mode = λ clean auto. q.mode clean (p.mode (early clean) auto);
      was_open = λ clean o. p.was_open (early clean) (q.was_open clean o);
      same = λ clean o has. q.same clean o ∙ p.same (early clean) (q.was_open clean o) has;
    }

-- a statement that changed nothing, or was rolled back, outside a transaction
pub left_so : (old new : State) → old.in_transaction ≡ false
    → doubt old.is_clean ≤ doubt new.is_clean → (IsTrue old.is_open → old.now ≡ old.committed)
    → (HasCleanDisk new → IsUnchanged old new ⊎ IsRolledBack old new) → Leaves old new
left_so old new outside clean settled left = record {
  clean = clean;
  mode = λ fine auto.
      elim (left fine) [ inl same ↦ same.0.mode ∙ auto | inr back ↦ back.autocommit ];
  outside = λ _. outside;
  was_open = λ fine o. elim (left fine) [ inl same ↦ same.0.was_open | inr back ↦ back.was_open o ];
  same = λ fine o. elim (left fine) [
    | inl same ↦ same.0.now_is
    | inr back ↦ (back.undone o).0 ∙ sym (settled (back.was_open o))
  ];
}

-- the same of a statement that leaves a table that is there
pub kept_so : (old new : State) → doubt old.is_clean ≤ doubt new.is_clean
    → (HasCleanDisk new → old.in_transaction ≡ false → new.in_transaction ≡ false)
    → (IsTrue old.is_open → old.now ≡ old.committed)
    → (HasCleanDisk new → old.now.schema ≡ kept_schema
    → IsUnchanged old new ⊎ IsRolledBack old new)
    → KeepsTable old new
kept_so old new clean mode settled left = record {
  clean = clean;
  mode = mode;
  was_open = λ fine o has.
      elim (left fine has) [ inl same ↦ same.0.was_open | inr back ↦ back.was_open o ];
  same = λ fine o has. elim (left fine has) [
    | inl same ↦ same.0.now_is
    | inr back ↦ (back.undone o).0 ∙ sym (settled (back.was_open o))
  ];
}

-- a refusal that changed nothing, or was rolled back
pub refused_so : (old new : State) (r : Result ℕ Error) → old.in_transaction ≡ false
    → doubt old.is_clean ≤ doubt new.is_clean → (IsTrue old.is_open → old.now ≡ old.committed)
    → (HasCleanDisk new → OnErr r (IsUnchanged old new ⊎ IsRolledBack old new))
    → OnErr r (Leaves old new)
refused_so old new (Ok count) outside clean settled left = tt
refused_so old new (Err e) outside clean settled left = left_so old new outside clean settled left

-- what stands after a call that left the database, and a second one that was made
pub made_after : (old mid : State) (r : Result (Unit {0}) Error) (P : Type 0) → Leaves old mid
    → HasCleanDisk mid → OnOk r (IsTrue mid.is_open) → (mid.now ≡ old.now → OnOk r P) → OnOk r P
made_after old mid (Ok u) P leaves clean opened f = f (leaves.same clean opened)
made_after old mid (Err e) P leaves clean opened f = tt
