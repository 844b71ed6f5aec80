-- Rows that are numbered ascend.
use Rattle.std.proofs.Common.{◌≡◌, ℕ, zero, suc, ◌+◌, ◌<◌, ◌≤◌, true, eqb, List, [], ◌∷◌, length, get_or, None, Some, refl, sym, ap, arith}
use Rattle.std.proofs.lemmas.Bool.{and_parts, and_from, eq-eqb, eqb-true, le-leb, ne_eqb}
use Rattle.bp_core.specs.Sorted.{ascends, find_key}
use Rattle.bp_core.proofs.SortedLemmas.{ascends-lower, find-above}
use Rattle.bp_matter.specs.ValidRows.{is_numbered}

numbered_from : {T : Type 0} (key : T → ℕ) (n : ℕ) (rows : List T) → is_numbered key n rows ≡ true → ascends key n rows ≡ true
numbered_from key n [] h = refl
numbered_from key n (row ∷ rows) h =
    let parts = and_parts (eqb (key row) n) (is_numbered key (n + 1) rows) h in
    let e : key row ≡ n = eqb-true (key row) n parts.0 in
    and_from _ _ (le-leb n (key row) (omega arith)) (rw e (numbered_from key (n + 1) rows parts.1))

pub numbered-ascends : {T : Type 0} (key : T → ℕ) (rows : List T) → is_numbered key 1 rows ≡ true → ascends key 0 rows ≡ true
numbered-ascends key rows h = ascends-lower key 1 0 rows (omega arith) (numbered_from key 1 rows h)

-- the row of a number stands at its place
pub numbered-found : {T : Type 0} (key : T → ℕ) (n place number : ℕ) (rows : List T) (row : T)
    → is_numbered key n rows ≡ true → place < length rows → number ≡ n + place → row ≡ get_or rows place row
    → Some row ≡ find_key key number rows
numbered-found key n place number [] row all lt e is = absurd (omega arith)
numbered-found {T} key n zero number (first ∷ rows) row all lt e is =
    let parts = and_parts (eqb (key first) n) (is_numbered key (n + 1) rows) all in
    rw (eq-eqb (key first) number (omega (arith, eqb-true (key first) n parts.0))) (ap (λ (r : T). Some r) is)
numbered-found key n (suc place) number (first ∷ rows) row all lt e is =
    let parts = and_parts (eqb (key first) n) (is_numbered key (n + 1) rows) all in
    let own : key first ≡ n = eqb-true (key first) n parts.0 in
    rw (ne_eqb (key first) number (λ same. omega arith))
    (numbered-found key (n + 1) place number rows row parts.1 (omega arith) (omega arith) is)

-- no row has a number past the last
pub numbered-past : {T : Type 0} (key : T → ℕ) (n number : ℕ) (rows : List T)
    → is_numbered key n rows ≡ true → n + length rows ≤ number → None ≡ find_key key number rows
numbered-past key n number [] all past = refl
numbered-past key n number (first ∷ rows) all past =
    let parts = and_parts (eqb (key first) n) (is_numbered key (n + 1) rows) all in
    let e : key first ≡ n = eqb-true (key first) n parts.0 in
    rw (ne_eqb (key first) number (λ same. omega arith)) (numbered-past key (n + 1) number rows parts.1 (omega arith))

-- nor one before the first
pub numbered-before : {T : Type 0} (key : T → ℕ) (number : ℕ) (rows : List T)
    → is_numbered key 1 rows ≡ true → number ≡ 0 → None ≡ find_key key number rows
numbered-before key number rows all none = sym (find-above key number 1 rows (omega arith) (numbered_from key 1 rows all))

pub ruleset orders = (numbered-ascends)
