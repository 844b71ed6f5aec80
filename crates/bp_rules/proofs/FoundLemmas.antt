-- Rows that are found in a list in order of key, and what a put or a removal leaves of the others.
use Rattle.std.proofs.Common.{◌≡◌, ℕ, ◌+◌, ◌≤◌, Bool, true, false, cond, eqb, leb, ltb, List, [], ◌∷◌, length, Some, None, refl, sym, ap, ◌∙◌, arith, inl, inr}
use Rattle.std.specs.List.{filter, find, list_all}
use Rattle.std.proofs.lemmas.Bool.{and_parts, and_from, cases_Bool, eqb-true, eqb-false, eq-eqb, ne_eqb, leb-true, le-leb, le-ltb}
use Rattle.bp_core.specs.Sorted.{ascends, find_key, put, without}
use Rattle.bp_matter.specs.ValidRows.{is_numbered}
use Rattle.bp_rules.proofs.ListLemmas.{all-weaker, find-all, find-passes}

-- ---- rows found

-- the keys of rows in order are at least the first
pub ascends-all : {T : Type 0} (key : T → ℕ) (low : ℕ) (rows : List T) → ascends key low rows ≡ true → list_all (λ (r : T). leb low (key r)) rows ≡ true
ascends-all key low [] up = refl
ascends-all {T} key low (row ∷ rows) up =
    let parts = and_parts (leb low (key row)) (ascends key (key row + 1) rows) up in
    let floor : low ≤ key row = leb-true low (key row) parts.0 in
    and_from (leb low (key row)) (list_all (λ (r : T). leb low (key r)) rows) parts.0
    (all-weaker (λ (r : T). leb (key row + 1) (key r)) (λ (r : T). leb low (key r)) rows (λ r h. le-leb low (key r) (omega (arith, leb-true (key row + 1) (key r) h))) (ascends-all key (key row + 1) rows parts.1))

-- what is found has the key
pub found-key : {T : Type 0} (key : T → ℕ) (k : ℕ) (rows : List T) (x : T) → find_key key k rows ≡ Some x → key x ≡ k
found-key {T} key k rows x found = eqb-true (key x) k (find-passes (λ (r : T). eqb (key r) k) rows x found)

-- a row that is found behind others of lower key
pub found-behind : {T : Type 0} (key : T → ℕ) (row : T) (rows : List T) → ascends key (key row + 1) rows ≡ true → (r : T) → find_key key (key r) rows ≡ Some r → (key row + 1 ≤ key r) × (find_key key (key r) (row ∷ rows) ≡ Some r)
found-behind {T} key row rows up r found =
    let above : key row + 1 ≤ key r = leb-true (key row + 1) (key r) (find-all (λ (x : T). eqb (key x) (key r)) (λ (x : T). leb (key row + 1) (key x)) rows r found (ascends-all key (key row + 1) rows up)) in
    (above, rw (ne_eqb (key row) (key r) (λ e. omega arith)) found)

-- what holds of each row that is found by its key holds of all
pub all-found : {T : Type 0} (key : T → ℕ) (low : ℕ) (rows : List T) → ascends key low rows ≡ true → (p : T → Bool) → ((r : T) → find_key key (key r) rows ≡ Some r → p r ≡ true) → list_all p rows ≡ true
all-found key low [] up p h = refl
all-found key low (row ∷ rows) up p h =
    let parts = and_parts (leb low (key row)) (ascends key (key row + 1) rows) up in
    let head : find_key key (key row) (row ∷ rows) ≡ Some row = rw (eq-eqb (key row) (key row) refl) refl in
    and_from (p row) (list_all p rows) (h row head) (all-found key (key row + 1) rows parts.1 p (λ r found. h r (found-behind key row rows parts.1 r found).1))

-- numbered rows that are found by any test: their number is one of so many, and finds them
pub numbered-found : {T : Type 0} (key : T → ℕ) (n : ℕ) (p : T → Bool) (rows : List T) (x : T) → is_numbered key n rows ≡ true → find p rows ≡ Some x → (n ≤ key x) × (key x + 1 ≤ n + length rows) × (find_key key (key x) rows ≡ Some x)
numbered-found key n p [] x h found = absurd cc
numbered-found key n p (row ∷ rows) x h found =
    let parts = and_parts (eqb (key row) n) (is_numbered key (n + 1) rows) h in
    let number : key row ≡ n = eqb-true (key row) n parts.0 in
    elim (cases_Bool (p row)) [
      | inl here ↦ (
          let some : Some row ≡ Some x = rw here at found in
          let same : row ≡ x = cc in
          let at : key x ≡ n = ap key (sym same) ∙ number in
          let it : find_key key (key x) (row ∷ rows) ≡ Some x = rw (eq-eqb (key row) (key x) (ap key same)) some in
          (omega arith, omega arith, it))
      | inr there ↦ (
          let rest = numbered-found key (n + 1) p rows x parts.1 (rw there at found) in
          let above : n + 1 ≤ key x = rest.0 in
          let it : find_key key (key x) (row ∷ rows) ≡ Some x = rw (ne_eqb (key row) (key x) (λ e. omega arith)) rest.2 in
          (omega arith, omega (arith, rest.1), it))
    ]

-- ---- a row put again

-- a row that is there changes nothing where it is put
pub put-again : {T : Type 0} (key : T → ℕ) (low : ℕ) (row : T) (rows : List T) → ascends key low rows ≡ true → find_key key (key row) rows ≡ Some row → put key row rows ≡ rows
put-again key low row [] up found = absurd cc
put-again {T} key low row (first ∷ rows) up found =
    let parts = and_parts (leb low (key first)) (ascends key (key first + 1) rows) up in
    elim (cases_Bool (eqb (key first) (key row))) [
      | inl here ↦ (
          let some : Some first ≡ Some row = rw here at found in
          let same : first ≡ row = cc in
          let equal : key row ≡ key first = sym (eqb-true (key first) (key row) here) in
          rw (le-ltb (key row) (key first) (omega arith), eq-eqb (key row) (key first) equal) (ap (λ (r : T). r ∷ rows) (sym same)))
      | inr there ↦ (
          let behind : find_key key (key row) rows ≡ Some row = rw there at found in
          let above : key first + 1 ≤ key row = (found-behind key first rows parts.1 row behind).0 in
          rw (le-ltb (key row) (key first) (omega arith), ne_eqb (key row) (key first) (λ e. omega arith)) (ap (λ (l : List T). first ∷ l) (put-again key (key first + 1) row rows parts.1 behind)))
    ]

-- ---- a row gone

-- where no row has the key all stay
pub without-none : {T : Type 0} (key : T → ℕ) (k : ℕ) (rows : List T) → find_key key k rows ≡ None → without key k rows ≡ rows
without-none key k [] none = refl
without-none {T} key k (row ∷ rows) none =
    elim (cases_Bool (eqb (key row) k)) [
      | inl here ↦ absurd (let some : Some row ≡ None = rw here at none in cc)
      | inr there ↦ rw there (ap (λ (l : List T). row ∷ l) (without-none key k rows (rw there at none)))
    ]

pub find-without : {T : Type 0} (key : T → ℕ) (k j : ℕ) (rows : List T) → find_key key j (without key k rows) ≡ cond (eqb k j) None (find_key key j rows)
find-without key k j [] = elim (cases_Bool (eqb k j)) [ inl same ↦ rw same refl | inr other ↦ rw other refl ]
find-without key k j (row ∷ rows) =
    elim (cases_Bool (eqb (key row) k)) [
      | inl here ↦ (
          let is : key row ≡ k = eqb-true (key row) k here in
          elim (cases_Bool (eqb k j)) [
            | inl same ↦ rw (here, same) (find-without key k j rows ∙ rw same refl)
            | inr other ↦ (
                let apart : eqb (key row) j ≡ false = ap (λ (n : ℕ). eqb n j) is ∙ other in
                rw (here, other, apart) (find-without key k j rows ∙ rw other refl))
          ])
      | inr there ↦
          elim (cases_Bool (eqb (key row) j)) [
            | inl found ↦ (
                let at : key row ≡ j = eqb-true (key row) j found in
                let apart : eqb k j ≡ false = ne_eqb k j (λ e. eqb-false (key row) k there (at ∙ sym e)) in
                rw (there, found, apart) refl)
            | inr on ↦ rw (there, on) (find-without key k j rows)
          ]
    ]

-- ---- what stays of the others

-- rows that a test takes stay as they were, where it takes none of the key of a row that is put
pub filter-put : {T : Type 0} (key : T → ℕ) (p w : T → Bool) (row : T) (rows : List T) → p row ≡ false → ((x : T) → w x ≡ true → key row ≡ key x → p x ≡ false) → list_all w rows ≡ true → filter p (put key row rows) ≡ filter p rows
filter-put key p w row [] apart others all = rw apart refl
filter-put {T} key p w row (x ∷ rows) apart others all =
    let parts = and_parts (w x) (list_all w rows) all in
    elim (cases_Bool (ltb (key row) (key x))) [
      | inl less ↦ rw (less, apart) refl
      | inr more ↦
          elim (cases_Bool (eqb (key row) (key x))) [
            | inl same ↦ (
                let no : p x ≡ false = others x parts.0 (eqb-true (key row) (key x) same) in
                rw (more, same, apart, no) refl)
            | inr other ↦
                elim (cases_Bool (p x)) [
                  | inl kept ↦ rw (more, other, kept) (ap (λ (l : List T). x ∷ l) (filter-put key p w row rows apart others parts.1))
                  | inr left ↦ rw (more, other, left) (filter-put key p w row rows apart others parts.1)
                ]
          ]
    ]

-- and where it takes none of the key that goes
pub filter-without : {T : Type 0} (key : T → ℕ) (p w : T → Bool) (k : ℕ) (rows : List T) → ((x : T) → w x ≡ true → key x ≡ k → p x ≡ false) → list_all w rows ≡ true → filter p (without key k rows) ≡ filter p rows
filter-without key p w k [] others all = refl
filter-without {T} key p w k (x ∷ rows) others all =
    let parts = and_parts (w x) (list_all w rows) all in
    elim (cases_Bool (eqb (key x) k)) [
      | inl here ↦ (
          let no : p x ≡ false = others x parts.0 (eqb-true (key x) k here) in
          rw (here, no) (filter-without key p w k rows others parts.1))
      | inr there ↦
          elim (cases_Bool (p x)) [
            | inl kept ↦ rw (there, kept) (ap (λ (l : List T). x ∷ l) (filter-without key p w k rows others parts.1))
            | inr left ↦ rw (there, left) (filter-without key p w k rows others parts.1)
          ]
    ]
