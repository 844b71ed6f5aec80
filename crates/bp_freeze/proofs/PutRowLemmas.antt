-- What stays of tests of a list when a row comes behind it, or in the place of another row.
use Rattle.std.proofs.Common.{◌≡◌, ℕ, ◌+◌, ◌<◌, Bool, true, false, eqb, ◌&&◌, ◌||◌, not, List, [], ◌∷◌, ◌++◌, length, Some, None, refl, sym, ap, ap₂, ◌∙◌, inl, inr, arith, subst}
use Rattle.std.specs.List.{list_all, list_any, find}
use Rattle.std.specs.Option.{option_or}
use Rattle.std.specs.Str.{bytes_eq}
use Rattle.std.proofs.lemmas.Bool.{and_parts, and_from, or_parts, or_from, or_left, or_right, not-true, not_from_false, cases_Bool, eqb-true, eq-eqb, ne_eqb, le-ltb, false_from_ne_true}
use Rattle.std.proofs.lemmas.List.Folds.{list_all-append, list_any-append, find-append}
use Rattle.std.proofs.lemmas.Slice.Eq.{bytes_eq-Decides}
use Rattle.bp_core.specs.Sorted.{put}
use Rattle.bp_core.specs.Differing.{all_differ}
use Rattle.bp_matter.specs.ValidRows.{is_numbered}

-- a row of a list, with those before it and behind it
pub record Stands {T : Type 0} (rows : List T) (row : T) : Type 0 where
  pub before : List T
  pub after : List T
  pub parts : rows ≡ before ++ row ∷ after

-- ---- tests of all rows, and of some

pub all-at : {T : Type 0} (p : T → Bool) (before after : List T) (row : T) → list_all p (before ++ row ∷ after) ≡ true → p row ≡ true
all-at p [] after row all = (and_parts (p row) (list_all p after) all).0
all-at p (first ∷ before) after row all = all-at p before after row (and_parts (p first) (list_all p (before ++ row ∷ after)) all).1

pub all-in-place : {T : Type 0} (p : T → Bool) (before after : List T) (row other : T) → list_all p (before ++ row ∷ after) ≡ true → p other ≡ true → list_all p (before ++ other ∷ after) ≡ true
all-in-place p [] after row other all one = and_from (p other) (list_all p after) one (and_parts (p row) (list_all p after) all).1
all-in-place p (first ∷ before) after row other all one =
    let parts = and_parts (p first) (list_all p (before ++ row ∷ after)) all in
    and_from (p first) (list_all p (before ++ other ∷ after)) parts.0 (all-in-place p before after row other parts.1 one)

pub all-behind : {T : Type 0} (p : T → Bool) (rows : List T) (row : T) → list_all p rows ≡ true → p row ≡ true → list_all p (rows ++ row ∷ []) ≡ true
all-behind p rows row all one =
    list_all-append p rows (row ∷ []) ∙ and_from (list_all p rows) (p row && true) all (and_from (p row) true one refl)

pub all-weaker : {T : Type 0} (p q : T → Bool) (rows : List T) → ((row : T) → p row ≡ true → q row ≡ true) → list_all p rows ≡ true → list_all q rows ≡ true
all-weaker p q [] kept all = refl
all-weaker p q (row ∷ rows) kept all =
    let parts = and_parts (p row) (list_all p rows) all in
    and_from (q row) (list_all q rows) (kept row parts.0) (all-weaker p q rows kept parts.1)

pub any-at : {T : Type 0} (p : T → Bool) (before after : List T) (row : T) → p row ≡ true → list_any p (before ++ row ∷ after) ≡ true
any-at p before after row one =
    list_any-append p before (row ∷ after) ∙ or_right (list_any p before) (p row || list_any p after) (or_left (p row) (list_any p after) one)

pub any-in-place : {T : Type 0} (p : T → Bool) (before after : List T) (row other : T) → p row ≡ p other → list_any p (before ++ row ∷ after) ≡ list_any p (before ++ other ∷ after)
any-in-place p [] after row other same = ap (λ (b : Bool). b || list_any p after) same
any-in-place p (first ∷ before) after row other same = ap (λ (b : Bool). p first || b) (any-in-place p before after row other same)

pub any-more : {T : Type 0} (p : T → Bool) (rows more : List T) → list_any p rows ≡ true → list_any p (rows ++ more) ≡ true
any-more p rows more any = list_any-append p rows more ∙ or_left (list_any p rows) (list_any p more) any

pub any-behind : {T : Type 0} (p : T → Bool) (rows : List T) (row : T) → p row ≡ true → list_any p (rows ++ row ∷ []) ≡ true
any-behind p rows row one = any-at p rows [] row one

pub none-stands : {T : Type 0} (p : T → Bool) (rows : List T) → list_any p rows ≡ false → list_all (λ row. not (p row)) rows ≡ true
none-stands p [] none = refl
none-stands p (row ∷ rows) none =
    let parts = or_parts (p row) (list_any p rows) none in
    and_from (not (p row)) (list_all (λ r. not (p r)) rows) (not_from_false (p row) parts.0) (none-stands p rows parts.1)

pub any-known : {T : Type 0} (p q : T → Bool) (rows : List T) → list_any p rows ≡ true → list_any q rows ≡ false → ((row : T) → p row ≡ true → q row ≡ true) → ⊥
any-known p q [] any none kept = absurd cc
any-known p q (row ∷ rows) any none kept =
    let parts = or_parts (q row) (list_any q rows) none in
    elim (cases_Bool (p row)) [
      | inl here ↦ (let yes : q row ≡ true = kept row here in absurd cc)
      | inr there ↦ any-known p q rows (sym (ap (λ (b : Bool). b || list_any p rows) there) ∙ any) parts.1 kept
    ]

-- ---- what is found

pub find-none : {T : Type 0} (p : T → Bool) (rows : List T) → find p rows ≡ None → list_any p rows ≡ false
find-none p [] e = refl
find-none p (row ∷ rows) e =
    elim (cases_Bool (p row)) [
      | inl here ↦ (let found : Some row ≡ None = rw here at e in absurd cc)
      | inr there ↦ or_from (p row) (list_any p rows) there (find-none p rows (rw there at e))
    ]

pub none-found : {T : Type 0} (p : T → Bool) (rows : List T) → list_any p rows ≡ false → find p rows ≡ None
none-found p [] none = refl
none-found p (row ∷ rows) none =
    let parts = or_parts (p row) (list_any p rows) none in rw parts.0 (none-found p rows parts.1)

-- what is found passes any test of all rows
pub find-all : {T : Type 0} (p q : T → Bool) (rows : List T) (x : T) → find p rows ≡ Some x → list_all q rows ≡ true → q x ≡ true
find-all p q [] x e all = absurd cc
find-all p q (row ∷ rows) x e all =
    let parts = and_parts (q row) (list_all q rows) all in
    elim (cases_Bool (p row)) [
      | inl here ↦ (let same : Some row ≡ Some x = rw here at e in let is : row ≡ x = cc in subst (λ y. q y ≡ true) is parts.0)
      | inr there ↦ find-all p q rows x (rw there at e) parts.1
    ]

-- and its own
pub find-passes : {T : Type 0} (p : T → Bool) (rows : List T) (x : T) → find p rows ≡ Some x → p x ≡ true
find-passes p [] x e = absurd cc
find-passes p (row ∷ rows) x e =
    elim (cases_Bool (p row)) [
      | inl here ↦ (let same : Some row ≡ Some x = rw here at e in let is : row ≡ x = cc in subst (λ y. p y ≡ true) is here)
      | inr there ↦ find-passes p rows x (rw there at e)
    ]

pub find-stands : {T : Type 0} (p : T → Bool) (rows : List T) (x : T) → find p rows ≡ Some x → Stands rows x
find-stands p [] x e = absurd cc
find-stands p (row ∷ rows) x e =
    elim (cases_Bool (p row)) [
      | inl here ↦ (
          let same : Some row ≡ Some x = rw here at e in
          let is : row ≡ x = cc in
          record { before = []; after = rows; parts = ap (λ y. y ∷ rows) is })
      | inr there ↦ (
          let rest = find-stands p rows x (rw there at e) in
          record { before = row ∷ rest.before; after = rest.after; parts = ap (λ (l : List _). row ∷ l) rest.parts })
    ]

pub find-kept : {T : Type 0} (p : T → Bool) (rows more : List T) (x : T) → find p rows ≡ Some x → find p (rows ++ more) ≡ Some x
find-kept p rows more x e = find-append p rows more ∙ ap (λ o. option_or o (find p more)) e

pub find-behind : {T : Type 0} (p : T → Bool) (rows : List T) (row : T) → find p rows ≡ None → p row ≡ true → find p (rows ++ row ∷ []) ≡ Some row
find-behind p rows row none one =
    find-append p rows (row ∷ []) ∙ ap (λ o. option_or o (find p (row ∷ []))) none ∙ ap (λ (b : Bool). find (λ _. b) (row ∷ [])) one

-- ---- numbers

pub numbered-behind : {T : Type 0} (key : T → ℕ) (n : ℕ) (rows : List T) (row : T) → is_numbered key n rows ≡ true → key row ≡ n + length rows → is_numbered key n (rows ++ row ∷ []) ≡ true
numbered-behind key n [] row num e = and_from (eqb (key row) n) true (eq-eqb (key row) n (omega arith)) refl
numbered-behind key n (first ∷ rows) row num e =
    let parts = and_parts (eqb (key first) n) (is_numbered key (n + 1) rows) num in
    and_from (eqb (key first) n) (is_numbered key (n + 1) (rows ++ row ∷ [])) parts.0 (numbered-behind key (n + 1) rows row parts.1 (omega arith))

pub numbered-at : {T : Type 0} (key : T → ℕ) (n : ℕ) (before after : List T) (row : T) → is_numbered key n (before ++ row ∷ after) ≡ true → key row ≡ n + length before
numbered-at key n [] after row num =
    let e = eqb-true (key row) n (and_parts (eqb (key row) n) (is_numbered key (n + 1) after) num).0 in omega arith
numbered-at key n (first ∷ before) after row num =
    let e = numbered-at key (n + 1) before after row (and_parts (eqb (key first) n) (is_numbered key (n + 1) (before ++ row ∷ after)) num).1 in omega arith

pub numbered-in-place : {T : Type 0} (key : T → ℕ) (n : ℕ) (before after : List T) (row other : T) → is_numbered key n (before ++ row ∷ after) ≡ true → key other ≡ key row → is_numbered key n (before ++ other ∷ after) ≡ true
numbered-in-place key n [] after row other num e = ap (λ k. eqb k n && is_numbered key (n + 1) after) e ∙ num
numbered-in-place key n (first ∷ before) after row other num e =
    let parts = and_parts (eqb (key first) n) (is_numbered key (n + 1) (before ++ row ∷ after)) num in
    and_from (eqb (key first) n) (is_numbered key (n + 1) (before ++ other ∷ after)) parts.0 (numbered-in-place key (n + 1) before after row other parts.1 e)

put-later : {T : Type 0} (key : T → ℕ) (row first : T) (rows : List T) → key first < key row → put key row (first ∷ rows) ≡ first ∷ put key row rows
put-later key row first rows lt = rw (le-ltb (key row) (key first) (omega arith), ne_eqb (key row) (key first) (λ e. omega arith)) refl

put-over : {T : Type 0} (key : T → ℕ) (row first : T) (rows : List T) → key row ≡ key first → put key row (first ∷ rows) ≡ row ∷ rows
put-over key row first rows e = rw (le-ltb (key row) (key first) (omega arith), eq-eqb (key row) (key first) e) refl

-- a row of the next number is put behind the others
pub put-behind : {T : Type 0} (key : T → ℕ) (n : ℕ) (rows : List T) (row : T) → is_numbered key n rows ≡ true → key row ≡ n + length rows → put key row rows ≡ rows ++ row ∷ []
put-behind key n [] row num e = refl
put-behind key n (first ∷ rows) row num e =
    let parts = and_parts (eqb (key first) n) (is_numbered key (n + 1) rows) num in
    let number = eqb-true (key first) n parts.0 in
    put-later key row first rows (omega arith) ∙ ap (λ (l : List _). first ∷ l) (put-behind key (n + 1) rows row parts.1 (omega arith))

-- a row of a number that stands is put in the place of that row
pub put-in-place : {T : Type 0} (key : T → ℕ) (n : ℕ) (before after : List T) (row other : T) → is_numbered key n (before ++ row ∷ after) ≡ true → key other ≡ key row → put key other (before ++ row ∷ after) ≡ before ++ other ∷ after
put-in-place key n [] after row other num e = put-over key other row after e
put-in-place key n (first ∷ before) after row other num e =
    let parts = and_parts (eqb (key first) n) (is_numbered key (n + 1) (before ++ row ∷ after)) num in
    let number = eqb-true (key first) n parts.0 in
    let later = numbered-at key (n + 1) before after row parts.1 in
    put-later key other first (before ++ row ∷ after) (omega arith) ∙ ap (λ (l : List _). first ∷ l) (put-in-place key (n + 1) before after row other parts.1 e)

-- ---- texts that differ

pub same-text : (x y : List ℕ) → bytes_eq x y ≡ true → x ≡ y
same-text x y e = (bytes_eq-Decides x y).0 e

pub text-same : (x y : List ℕ) → x ≡ y → bytes_eq x y ≡ true
text-same x y e = (bytes_eq-Decides x y).1 e

pub other-turned : (x y : List ℕ) → bytes_eq x y ≡ false → bytes_eq y x ≡ false
other-turned x y h =
    false_from_ne_true (bytes_eq y x) (λ same. (let yes : bytes_eq x y ≡ true = text-same x y (sym (same-text y x same)) in absurd cc))

any-text-behind : {T : Type 0} (p : T → Bool) (rows : List T) (row : T) → list_any p rows ≡ false → p row ≡ false → list_any p (rows ++ row ∷ []) ≡ false
any-text-behind p rows row none one = list_any-append p rows (row ∷ []) ∙ or_from (list_any p rows) (p row || false) none (or_from (p row) false one refl)

-- one more row, whose text none has
pub differ-behind : {T : Type 0} (text : T → List ℕ) (rows : List T) (row : T) → all_differ text rows ≡ true → list_any (λ o. bytes_eq (text o) (text row)) rows ≡ false → all_differ text (rows ++ row ∷ []) ≡ true
differ-behind text [] row differ none = refl
differ-behind text (first ∷ rows) row differ none =
    let parts = and_parts (not (list_any (λ o. bytes_eq (text o) (text first)) rows)) (all_differ text rows) differ in
    let other = or_parts (bytes_eq (text first) (text row)) (list_any (λ o. bytes_eq (text o) (text row)) rows) none in
    and_from (not (list_any (λ o. bytes_eq (text o) (text first)) (rows ++ row ∷ []))) (all_differ text (rows ++ row ∷ []))
    (not_from_false _ (any-text-behind (λ o. bytes_eq (text o) (text first)) rows row (not-true _ parts.0) (other-turned (text first) (text row) other.0)))
    (differ-behind text rows row parts.1 other.1)

-- a row of the same text in the place of another
pub differ-in-place : {T : Type 0} (text : T → List ℕ) (before after : List T) (row other : T) → text other ≡ text row → all_differ text (before ++ row ∷ after) ≡ all_differ text (before ++ other ∷ after)
differ-in-place text [] after row other e = ap (λ t. not (list_any (λ o. bytes_eq (text o) t) after) && all_differ text after) (sym e)
differ-in-place text (first ∷ before) after row other e =
    ap₂ (λ (x y : Bool). not x && y) (any-in-place (λ o. bytes_eq (text o) (text first)) before after row other (ap (λ t. bytes_eq t (text first)) (sym e)))
    (differ-in-place text before after row other e)

-- none of the others has the text of a row
pub record Apart {T : Type 0} (text : T → List ℕ) (before after : List T) (row : T) : Type 0 where
  pub earlier : list_any (λ o. bytes_eq (text o) (text row)) before ≡ false
  pub later : list_any (λ o. bytes_eq (text o) (text row)) after ≡ false

pub apart : {T : Type 0} (text : T → List ℕ) (before after : List T) (row : T) → all_differ text (before ++ row ∷ after) ≡ true → Apart text before after row
apart text [] after row differ =
    record { earlier = refl; later = not-true _ (and_parts (not (list_any (λ o. bytes_eq (text o) (text row)) after)) (all_differ text after) differ).0 }
apart text (first ∷ before) after row differ =
    let parts = and_parts (not (list_any (λ o. bytes_eq (text o) (text first)) (before ++ row ∷ after))) (all_differ text (before ++ row ∷ after)) differ in
    let rest = apart text before after row parts.1 in
    let apart_two : bytes_eq (text row) (text first) ≡ false =
    false_from_ne_true _ (λ same. (let yes = any-at (λ o. bytes_eq (text o) (text first)) before after row same in let no = not-true _ parts.0 in absurd cc)) in
    record {
      earlier = or_from (bytes_eq (text first) (text row)) (list_any (λ o. bytes_eq (text o) (text row)) before) (other-turned (text row) (text first) apart_two) rest.earlier;
      later = rest.later;
    }
