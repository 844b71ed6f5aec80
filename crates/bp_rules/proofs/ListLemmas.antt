-- What stays of tests of a list when rows are added behind.
use Rattle.std.proofs.Common.{◌≡◌, ℕ, ◌+◌, ◌≤◌, Bool, true, false, eqb, leb, ◌&&◌, ◌||◌, not, List, [], ◌∷◌, ◌++◌, length, Option, Some, None, refl, sym, ◌∙◌, inl, inr, arith, subst}
use Rattle.std.specs.List.{list_all, list_any, find, filter}
use Rattle.std.specs.Option.{option_or}
use Rattle.std.specs.Str.{bytes_eq}
use Rattle.std.proofs.lemmas.Bool.{and_parts, and_from, or_parts, or_from, not_from_false, cases_Bool, eqb-true, eq-eqb, ne_eqb, leb-true, le-leb, false_from_ne_true}
use Rattle.std.proofs.lemmas.List.Folds.{list_all-append, list_any-append, find-append}
use Rattle.std.proofs.lemmas.Slice.Eq.{bytes_eq-Decides}
use Rattle.bp_core.specs.Sorted.{ascends, find_key}
use Rattle.bp_core.specs.Differing.{all_differ}
use Rattle.bp_matter.specs.ValidRows.{is_numbered, names}

-- ---- tests of several parts

pub assoc3 : (a b c : Bool) → ((a && b) && c) ≡ (a && (b && c))
assoc3 true b c = refl
assoc3 false b c = refl

pub assoc4 : (a b c d : Bool) → (((a && b) && c) && d) ≡ (a && (b && (c && d)))
assoc4 true b c d = assoc3 b c d
assoc4 false b c d = refl

pub assoc5 : (a b c d e : Bool) → ((((a && b) && c) && d) && e) ≡ (a && (b && (c && (d && e))))
assoc5 true b c d e = assoc4 b c d e
assoc5 false b c d e = refl

pub assoc6 : (a b c d e f : Bool) → (((((a && b) && c) && d) && e) && f) ≡ (a && (b && (c && (d && (e && f)))))
assoc6 true b c d e f = assoc5 b c d e f
assoc6 false b c d e f = refl

-- ---- all rows of a list

pub all-weaker : {T : Type 0} (p q : T → Bool) (rows : List T) → ((row : T) → p row ≡ true → q row ≡ true) → list_all p rows ≡ true → list_all q rows ≡ true
all-weaker p q [] kept all = refl
all-weaker p q (row ∷ rows) kept all =
    let parts = and_parts (p row) (list_all p rows) all in
    and_from (q row) (list_all q rows) (kept row parts.0) (all-weaker p q rows kept parts.1)

pub all-append : {T : Type 0} (p : T → Bool) (xs ys : List T) → list_all p xs ≡ true → list_all p ys ≡ true → list_all p (xs ++ ys) ≡ true
all-append p xs ys first second = list_all-append p xs ys ∙ and_from (list_all p xs) (list_all p ys) first second

pub all-behind : {T : Type 0} (p : T → Bool) (xs ys : List T) → list_all p (xs ++ ys) ≡ true → list_all p ys ≡ true
all-behind p xs ys all = (and_parts (list_all p xs) (list_all p ys) (sym (list_all-append p xs ys) ∙ all)).1

pub all-filter : {T : Type 0} (p q : T → Bool) (xs : List T) → list_all p xs ≡ true → list_all p (filter q xs) ≡ true
all-filter p q [] all = refl
all-filter p q (x ∷ xs) all =
    let parts = and_parts (p x) (list_all p xs) all in
    elim (cases_Bool (q x)) [
      | inl kept ↦ rw kept (and_from (p x) (list_all p (filter q xs)) parts.0 (all-filter p q xs parts.1))
      | inr gone ↦ rw gone (all-filter p q xs parts.1)
    ]

-- what was kept passes the test that kept it
pub all-kept : {T : Type 0} (q : T → Bool) (xs : List T) → list_all q (filter q xs) ≡ true
all-kept q [] = refl
all-kept q (x ∷ xs) =
    elim (cases_Bool (q x)) [
      | inl kept ↦ rw kept (and_from (q x) (list_all q (filter q xs)) kept (all-kept q xs))
      | inr gone ↦ rw gone (all-kept q xs)
    ]

-- what is found passes any test of all rows, and its own
pub find-all : {T : Type 0} (p q : T → Bool) (rows : List T) (x : T) → find p rows ≡ Some x → list_all q rows ≡ true → q x ≡ true
find-all p q [] x e all = absurd cc
find-all p q (row ∷ rows) x e all =
    let parts = and_parts (q row) (list_all q rows) all in
    elim (cases_Bool (p row)) [
      | inl here ↦ (let same : Some row ≡ Some x = rw here at e in let is : row ≡ x = cc in subst (λ y. q y ≡ true) is parts.0)
      | inr there ↦ find-all p q rows x (rw there at e) parts.1
    ]

pub find-passes : {T : Type 0} (p : T → Bool) (rows : List T) (x : T) → find p rows ≡ Some x → p x ≡ true
find-passes p [] x e = absurd cc
find-passes p (row ∷ rows) x e =
    elim (cases_Bool (p row)) [
      | inl here ↦ (let same : Some row ≡ Some x = rw here at e in let is : row ≡ x = cc in subst (λ y. p y ≡ true) is here)
      | inr there ↦ find-passes p rows x (rw there at e)
    ]

pub find-none : {T : Type 0} (p : T → Bool) (rows : List T) → find p rows ≡ None → list_any p rows ≡ false
find-none p [] e = refl
find-none p (row ∷ rows) e =
    elim (cases_Bool (p row)) [
      | inl here ↦ (let found : Some row ≡ None = rw here at e in absurd cc)
      | inr there ↦ or_from (p row) (list_any p rows) there (find-none p rows (rw there at e))
    ]

-- ---- numbers

pub numbered-append : {T : Type 0} (key : T → ℕ) (n k : ℕ) (xs ys : List T) → k ≡ n + length xs → is_numbered key n xs ≡ true → is_numbered key k ys ≡ true → is_numbered key n (xs ++ ys) ≡ true
numbered-append key n k [] ys e first second = let same : k ≡ n = omega arith in subst (λ j. is_numbered key j ys ≡ true) same second
numbered-append key n k (x ∷ xs) ys e first second =
    let parts = and_parts (eqb (key x) n) (is_numbered key (n + 1) xs) first in
    and_from (eqb (key x) n) (is_numbered key (n + 1) (xs ++ ys)) parts.0 (numbered-append key (n + 1) k xs ys (omega arith) parts.1 second)

pub names-more : (few more n : ℕ) → few ≤ more → names few n ≡ true → names more n ≡ true
names-more few more n le h =
    let parts = and_parts (leb 1 n) (leb n few) h in
    and_from (leb 1 n) (leb n more) parts.0 (le-leb n more (omega (arith, leb-true n few parts.1)))

pub at_most-more : (few more n : ℕ) → few ≤ more → leb n few ≡ true → leb n more ≡ true
at_most-more few more n le h = le-leb n more (omega (arith, leb-true n few h))

-- a row whose number is found stands among so many
pub numbered-within : {T : Type 0} (key : T → ℕ) (n k : ℕ) (rows : List T) (x : T) → is_numbered key n rows ≡ true → find_key key k rows ≡ Some x → (n ≤ k) × (k + 1 ≤ n + length rows)
numbered-within key n k [] x h e = absurd cc
numbered-within key n k (row ∷ rows) x h e =
    let parts = and_parts (eqb (key row) n) (is_numbered key (n + 1) rows) h in
    let number : key row ≡ n = eqb-true (key row) n parts.0 in
    elim (cases_Bool (eqb (key row) k)) [
      | inl here ↦ (let same : key row ≡ k = eqb-true (key row) k here in (omega arith, omega arith))
      | inr there ↦ (let rest = numbered-within key (n + 1) k rows x parts.1 (rw there at e) in (omega (arith, rest.0), omega (arith, rest.1)))
    ]

-- ---- texts that differ

eq-turned : (x y : List ℕ) → bytes_eq x y ≡ false → bytes_eq y x ≡ false
eq-turned x y h =
    false_from_ne_true (bytes_eq y x) (λ same. (let e : x ≡ y = sym ((bytes_eq-Decides y x).0 same) in let yes : bytes_eq x y ≡ true = (bytes_eq-Decides x y).1 e in absurd cc))

pub not_true : (b : Bool) → not b ≡ true → b ≡ false
not_true true h = absurd cc
not_true false h = refl

-- none of these texts is that of the first row, nor of another
apart_one : {T : Type 0} (text : T → List ℕ) (x : T) (rest : T → Bool) (ys : List T) → list_all (λ y. not (bytes_eq (text x) (text y) || rest y)) ys ≡ true → list_any (λ y. bytes_eq (text y) (text x)) ys ≡ false
apart_one text x rest [] h = refl
apart_one text x rest (y ∷ ys) h =
    let parts = and_parts (not (bytes_eq (text x) (text y) || rest y)) (list_all (λ z. not (bytes_eq (text x) (text z) || rest z)) ys) h in
    let apart : (bytes_eq (text x) (text y) || rest y) ≡ false = not_true (bytes_eq (text x) (text y) || rest y) parts.0 in
    let other = or_parts (bytes_eq (text x) (text y)) (rest y) apart in
    or_from (bytes_eq (text y) (text x)) (list_any (λ z. bytes_eq (text z) (text x)) ys) (eq-turned (text x) (text y) other.0) (apart_one text x rest ys parts.1)

apart_others : (a b : Bool) → not (a || b) ≡ true → not b ≡ true
apart_others true b h = absurd cc
apart_others false b h = h

-- the text of no added row stands among those before
pub differ-append : {T : Type 0} (text : T → List ℕ) (xs ys : List T) → all_differ text xs ≡ true → all_differ text ys ≡ true → list_all (λ y. not (list_any (λ x. bytes_eq (text x) (text y)) xs)) ys ≡ true → all_differ text (xs ++ ys) ≡ true
differ-append text [] ys first second apart = second
differ-append text (x ∷ xs) ys first second apart =
    let parts = and_parts (not (list_any (λ o. bytes_eq (text o) (text x)) xs)) (all_differ text xs) first in
    let others : list_all (λ y. not (list_any (λ o. bytes_eq (text o) (text y)) xs)) ys ≡ true =
    all-weaker (λ y. not (bytes_eq (text x) (text y) || list_any (λ o. bytes_eq (text o) (text y)) xs)) (λ y. not (list_any (λ o. bytes_eq (text o) (text y)) xs)) ys
    (λ y h. apart_others (bytes_eq (text x) (text y)) (list_any (λ o. bytes_eq (text o) (text y)) xs) h) apart in
    let here : list_any (λ o. bytes_eq (text o) (text x)) (xs ++ ys) ≡ false =
    list_any-append (λ o. bytes_eq (text o) (text x)) xs ys
    ∙ or_from (list_any (λ o. bytes_eq (text o) (text x)) xs) (list_any (λ o. bytes_eq (text o) (text x)) ys) (not_true (list_any (λ o. bytes_eq (text o) (text x)) xs) parts.0)
    (apart_one text x (λ y. list_any (λ o. bytes_eq (text o) (text y)) xs) ys apart) in
    and_from (not (list_any (λ o. bytes_eq (text o) (text x)) (xs ++ ys))) (all_differ text (xs ++ ys)) (not_from_false (list_any (λ o. bytes_eq (text o) (text x)) (xs ++ ys)) here) (differ-append text xs ys parts.1 second others)

-- ---- lists in order of key

pub ascends-at : {T : Type 0} (key : T → ℕ) (low : ℕ) (xs : List T) (x : T) (ys : List T) → ascends key low (xs ++ x ∷ ys) ≡ true → low ≤ key x
ascends-at key low [] x ys h = leb-true low (key x) (and_parts (leb low (key x)) (ascends key (key x + 1) ys) h).0
ascends-at key low (first ∷ xs) x ys h =
    let parts = and_parts (leb low (key first)) (ascends key (key first + 1) (xs ++ x ∷ ys)) h in
    omega (arith, leb-true low (key first) parts.0, ascends-at key (key first + 1) xs x ys parts.1)

-- a row is found by its key
pub find-member : {T : Type 0} (key : T → ℕ) (low : ℕ) (xs : List T) (x : T) (ys : List T) → ascends key low (xs ++ x ∷ ys) ≡ true → find_key key (key x) (xs ++ x ∷ ys) ≡ Some x
find-member key low [] x ys h = rw (eq-eqb (key x) (key x) refl) refl
find-member key low (first ∷ xs) x ys h =
    let parts = and_parts (leb low (key first)) (ascends key (key first + 1) (xs ++ x ∷ ys)) h in
    let above = ascends-at key (key first + 1) xs x ys parts.1 in
    rw (ne_eqb (key first) (key x) (λ e. omega arith)) (find-member key (key first + 1) xs x ys parts.1)

pub either_found : {T : Type 0} (p : Option T → Bool) (none : p None ≡ false) (a b : Option T) → p a ≡ true → p (option_or a b) ≡ true
either_found p none None b h = absurd cc
either_found p none (Some x) b h = h

-- what holds of a row that is found holds of it where more rows stand behind
pub found-more : {T : Type 0} (p : Option T → Bool) (none : p None ≡ false) (test : T → Bool) (xs ys : List T) → p (find test xs) ≡ true → p (find test (xs ++ ys)) ≡ true
found-more p none test xs ys h = subst (λ o. p o ≡ true) (sym (find-append test xs ys)) (either_found p none (find test xs) (find test ys) h)
