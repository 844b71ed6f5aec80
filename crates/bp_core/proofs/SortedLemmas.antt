-- Lemmas of lists in ascending order of key: what a search found is what the definitions say, and what stays after a put.
use Rattle.std.proofs.Common.{◌≡◌, ℕ, zero, suc, ◌+◌, ◌-◌, ◌<◌, ◌≤◌, Bool, true, false, cond, eqb, ltb, leb, ◌&&◌, List, [], ◌∷◌, ◌++◌, length, get_or, take, drop, Option, Some, None, refl, sym, ap, ◌∙◌, inl, inr, arith}
use Rattle.std.specs.List.{filter, list_all, AllWithin, slice_set, insert, remove, slice_range}
use Rattle.std.specs.List.Sorted.{IsNonDecreasingBy}
use Rattle.std.proofs.lemmas.Bool.{and_parts, and_from, leb-true, le-leb, ltb-true, ltb-false, lt-ltb, le-ltb, eqb-true, eqb-false, eq-eqb, ne_eqb, cases_Bool, cases_lt, and_left, and_right, lt-leb}
use Rattle.bp_core.specs.Sorted.{ascends, find_key, put, without}

-- a lower start is as good
pub ascends-lower : {T : Type 0} (key : T → ℕ) (low start : ℕ) (rows : List T) → start ≤ low → ascends key low rows ≡ true → ascends key start rows ≡ true
ascends-lower key low start [] h up = refl
ascends-lower key low start (row ∷ rows) h up =
    let parts = and_parts (leb low (key row)) (ascends key (key row + 1) rows) up in
    and_from (leb start (key row)) (ascends key (key row + 1) rows) (le-leb start (key row) (omega (arith, leb-true low (key row) parts.0))) parts.1

-- each key is at least the start
pub ascends-floor : {T : Type 0} (key : T → ℕ) (low : ℕ) (rows : List T) (k : ℕ) (d : T) → ascends key low rows ≡ true → k < length rows → low ≤ key (get_or rows k d)
ascends-floor key low [] k d up h = absurd (omega arith)
ascends-floor key low (row ∷ rows) zero d up h =
    leb-true low (key row) (and_parts (leb low (key row)) (ascends key (key row + 1) rows) up).0
ascends-floor key low (row ∷ rows) (suc k) d up h =
    let parts = and_parts (leb low (key row)) (ascends key (key row + 1) rows) up in
    omega (arith, leb-true low (key row) parts.0, ascends-floor key (key row + 1) rows k d parts.1 (omega arith))

pub ascends-rises : {T : Type 0} (key : T → ℕ) (low : ℕ) (rows : List T) → ascends key low rows ≡ true → IsNonDecreasingBy key rows
ascends-rises key low [] up i j d h lt = absurd (omega arith)
ascends-rises key low (row ∷ rows) up zero zero d h lt = omega arith
ascends-rises key low (row ∷ rows) up zero (suc j) d h lt =
    let parts = and_parts (leb low (key row)) (ascends key (key row + 1) rows) up in
    omega (arith, ascends-floor key (key row + 1) rows j d parts.1 (omega arith))
ascends-rises key low (row ∷ rows) up (suc i) zero d h lt = absurd (omega arith)
ascends-rises key low (row ∷ rows) up (suc i) (suc j) d h lt =
    let parts = and_parts (leb low (key row)) (ascends key (key row + 1) rows) up in
    ascends-rises key (key row + 1) rows parts.1 i j d (omega arith) (omega arith)

-- the rows above a key have it nowhere
pub find-above : {T : Type 0} (key : T → ℕ) (k low : ℕ) (rows : List T) → k < low → ascends key low rows ≡ true → find_key key k rows ≡ None
find-above key k low [] h up = refl
find-above key k low (row ∷ rows) h up =
    let parts = and_parts (leb low (key row)) (ascends key (key row + 1) rows) up in
    let above : low ≤ key row = leb-true low (key row) parts.0 in
    rw (ne_eqb (key row) k (λ e. omega arith)) (find-above key k (key row + 1) rows (omega arith) parts.1)

-- what stands at the first place whose key isn't below k
abbrev pub at_key : {T : Type 0} → (T → ℕ) → ℕ → List T → Option T
at_key key k [] = None
at_key key k (row ∷ rows) = cond (eqb (key row) k) (Some row) None

pub find-placed : {T : Type 0} (key : T → ℕ) (k low : ℕ) (rows : List T) (i : ℕ) → ascends key low rows ≡ true → i ≤ length rows
    → AllWithin (λ row. key row < k) rows 0 i → AllWithin (λ row. k ≤ key row) rows i (length rows) → find_key key k rows ≡ at_key key k (drop i rows)
find-placed key k low [] zero up le below above = refl
find-placed key k low [] (suc i) up le below above = absurd (omega arith)
find-placed key k low (row ∷ rows) zero up le below above =
    let parts = and_parts (leb low (key row)) (ascends key (key row + 1) rows) up in
    let here : k ≤ key row = above 0 row (omega arith) (omega arith) in
    elim (cases_Bool (eqb (key row) k)) [
      | inl same ↦ rw same refl
      | inr other ↦
          let far : k < key row + 1 = omega arith in
          rw other (find-above key k (key row + 1) rows far parts.1)
    ]
find-placed key k low (row ∷ rows) (suc i) up le below above =
    let parts = and_parts (leb low (key row)) (ascends key (key row + 1) rows) up in
    let here : key row < k = below 0 row (omega arith) (omega arith) in
    rw (ne_eqb (key row) k (λ e. omega arith)) (find-placed key k (key row + 1) rows i parts.1 (omega arith) (λ j d lo hi. below (suc j) d (omega arith) (omega arith)) (λ j d lo hi. above (suc j) d (omega arith) (omega arith)))

-- a put at its place
abbrev pub put_over : {T : Type 0} → (T → ℕ) → T → List T → List T
put_over key row [] = row ∷ []
put_over key row (first ∷ rows) = cond (eqb (key row) (key first)) (row ∷ rows) (row ∷ (first ∷ rows))

pub put-placed : {T : Type 0} (key : T → ℕ) (row : T) (rows : List T) (i : ℕ) → i ≤ length rows
    → AllWithin (λ x. key x < key row) rows 0 i → AllWithin (λ x. key row ≤ key x) rows i (length rows) → put key row rows ≡ take i rows ++ put_over key row (drop i rows)
put-placed key row [] zero le below above = refl
put-placed key row [] (suc i) le below above = absurd (omega arith)
put-placed key row (first ∷ rows) zero le below above =
    let here : key row ≤ key first = above 0 first (omega arith) (omega arith) in
    elim (cases_Bool (ltb (key row) (key first))) [
      | inl less ↦ rw (less, ne_eqb (key row) (key first) (λ e. omega (arith, ltb-true (key row) (key first) less))) refl
      | inr not_less ↦ rw (not_less, eq-eqb (key row) (key first) (omega (arith, ltb-false (key row) (key first) not_less))) refl
    ]
put-placed key row (first ∷ rows) (suc i) le below above =
    let here : key first < key row = below 0 first (omega arith) (omega arith) in
    rw (le-ltb (key row) (key first) (omega arith), ne_eqb (key row) (key first) (λ e. omega arith))
    (ap (λ (xs : List _). first ∷ xs) (put-placed key row rows i (omega arith) (λ j d lo hi. below (suc j) d (omega arith) (omega arith)) (λ j d lo hi. above (suc j) d (omega arith) (omega arith))))

pub at_key-past : {T : Type 0} (key : T → ℕ) (k : ℕ) (rows : List T) (i : ℕ) → length rows ≤ i → at_key key k (drop i rows) ≡ None
at_key-past key k [] zero le = refl
at_key-past key k [] (suc i) le = refl
at_key-past key k (row ∷ rows) zero le = absurd (omega arith)
at_key-past key k (row ∷ rows) (suc i) le = at_key-past key k rows i (omega arith)

pub at_key-read : {T : Type 0} (key : T → ℕ) (k : ℕ) (rows : List T) (i : ℕ) (row : T) → i < length rows → row ≡ get_or rows i row
    → at_key key k (drop i rows) ≡ cond (eqb (key row) k) (Some row) None
at_key-read key k [] i row lt e = absurd (omega arith)
at_key-read {T} key k (first ∷ rows) zero row lt e = rw (← e) refl
at_key-read key k (first ∷ rows) (suc i) row lt e = at_key-read key k rows i row (omega arith) e

-- the same of a put: what is written over, and what is put between
pub put_over-set : {T : Type 0} (key : T → ℕ) (row : T) (rows : List T) (i : ℕ) (d : T) → i < length rows → key row ≡ key (get_or rows i d)
    → take i rows ++ put_over key row (drop i rows) ≡ slice_set rows i row
put_over-set key row [] i d lt e = absurd (omega arith)
put_over-set key row (first ∷ rows) zero d lt e = rw (eq-eqb (key row) (key first) e) refl
put_over-set key row (first ∷ rows) (suc i) d lt e = ap (λ (xs : List _). first ∷ xs) (put_over-set key row rows i d (omega arith) e)

pub put_over-insert : {T : Type 0} (key : T → ℕ) (row : T) (rows : List T) (i : ℕ) → ((d : T) → i < length rows → key row ≡ key (get_or rows i d) → ⊥)
    → take i rows ++ put_over key row (drop i rows) ≡ insert rows i row
put_over-insert key row [] zero other = refl
put_over-insert key row [] (suc i) other = refl
put_over-insert key row (first ∷ rows) zero other = rw (ne_eqb (key row) (key first) (other first (omega arith))) refl
put_over-insert key row (first ∷ rows) (suc i) other =
    ap (λ (xs : List _). first ∷ xs) (put_over-insert key row rows i (λ d lt e. other d (omega arith) e))

-- both for a program that searched the list as it saw it
pub put-found : {T : Type 0} (key : T → ℕ) (row : T) (rows seen : List T) (k i : ℕ) (x : T) → seen ≡ rows → k ≡ key row → i ≤ length seen
    → AllWithin (λ y. key y < k) seen 0 i → AllWithin (λ y. k ≤ key y) seen i (length seen) → i < length rows → x ≡ get_or rows i x → key x ≡ k
    → slice_set rows i row ≡ put key row rows
put-found {T} key row rows seen k i x e same le below above lt is found =
    let le' : i ≤ length rows = rw (← e) le in
    let below' : AllWithin (λ y. key y < key row) rows 0 i = rw (← e, ← same) below in
    let above' : AllWithin (λ y. key row ≤ key y) rows i (length rows) = rw (← e, ← same) above in
    let there : key row ≡ key (get_or rows i x) = rw (← is, found) (sym same) in
    sym (put-placed key row rows i le' below' above' ∙ put_over-set key row rows i x lt there)

pub put-missed : {T : Type 0} (key : T → ℕ) (row : T) (rows seen : List T) (k i : ℕ) → seen ≡ rows → k ≡ key row → i ≤ length seen
    → AllWithin (λ y. key y < k) seen 0 i → AllWithin (λ y. k ≤ key y) seen i (length seen) → ((d : T) → i < length rows → k ≡ key (get_or rows i d) → ⊥)
    → insert rows i row ≡ put key row rows
put-missed {T} key row rows seen k i e same le below above other =
    let le' : i ≤ length rows = rw (← e) le in
    let below' : AllWithin (λ y. key y < key row) rows 0 i = rw (← e, ← same) below in
    let above' : AllWithin (λ y. key row ≤ key y) rows i (length rows) = rw (← e, ← same) above in
    sym (put-placed key row rows i le' below' above' ∙ put_over-insert key row rows i (λ d lt there. other d lt (same ∙ there)))

-- within the list the default doesn't matter
pub get_or-any : {T : Type 0} (rows : List T) (i : ℕ) (d e : T) → i < length rows → get_or rows i d ≡ get_or rows i e
get_or-any [] i d e lt = absurd (omega arith)
get_or-any (row ∷ rows) zero d e lt = refl
get_or-any (row ∷ rows) (suc i) d e lt = get_or-any rows i d e (omega arith)

-- ---- what a put leaves

-- a test that each row passes
pub all-put : {T : Type 0} (key : T → ℕ) (p : T → Bool) (row : T) (rows : List T) → list_all p rows ≡ true → p row ≡ true → list_all p (put key row rows) ≡ true
all-put key p row [] all one = and_from (p row) true one refl
all-put key p row (first ∷ rows) all one =
    let parts = and_parts (p first) (list_all p rows) all in
    elim (cases_Bool (ltb (key row) (key first))) [
      | inl less ↦ rw less (and_from (p row) (p first && list_all p rows) one all)
      | inr more ↦
          elim (cases_Bool (eqb (key row) (key first))) [
            | inl same ↦ rw (more, same) (and_from (p row) (list_all p rows) one parts.1)
            | inr other ↦ rw (more, other) (and_from (p first) (list_all p (put key row rows)) parts.0 (all-put key p row rows parts.1 one))
          ]
    ]

-- the order
pub ascends-put : {T : Type 0} (key : T → ℕ) (low : ℕ) (row : T) (rows : List T) → ascends key low rows ≡ true → low ≤ key row → ascends key low (put key row rows) ≡ true
ascends-put key low row [] up le = and_from (leb low (key row)) true (le-leb low (key row) le) refl
ascends-put key low row (first ∷ rows) up le =
    let parts = and_parts (leb low (key first)) (ascends key (key first + 1) rows) up in
    elim (cases_Bool (ltb (key row) (key first))) [
      | inl less ↦
          rw less (and_from (leb low (key row)) (leb (key row + 1) (key first) && ascends key (key first + 1) rows) (le-leb low (key row) le)
          (and_from (leb (key row + 1) (key first)) (ascends key (key first + 1) rows) (le-leb (key row + 1) (key first) (omega (arith, ltb-true (key row) (key first) less))) parts.1))
      | inr more ↦
          elim (cases_Bool (eqb (key row) (key first))) [
            | inl same ↦
                let e : key row ≡ key first = eqb-true (key row) (key first) same in
                rw (more, same) (and_from (leb low (key row)) (ascends key (key row + 1) rows) (le-leb low (key row) le) (rw e parts.1))
            | inr other ↦
                let above : key first + 1 ≤ key row = omega (arith, ltb-false (key row) (key first) more, eqb-false (key row) (key first) other) in
                rw (more, other) (and_from (leb low (key first)) (ascends key (key first + 1) (put key row rows)) parts.0 (ascends-put key (key first + 1) row rows parts.1 above))
          ]
    ]

cond_twice : {X : Type 0} (b : Bool) (x y z : X) → cond b x z ≡ cond b x (cond b y z)
cond_twice true x y z = refl
cond_twice false x y z = refl

cond_swap : {X : Type 0} (a b k : ℕ) (x y z : X) → (a ≡ b → ⊥) → cond (eqb b k) y (cond (eqb a k) x z) ≡ cond (eqb a k) x (cond (eqb b k) y z)
cond_swap a b k x y z other =
    elim (cases_Bool (eqb a k)) [
      | inl here ↦ rw (here, ne_eqb b k (λ e. other (eqb-true a k here ∙ sym e))) refl
      | inr elsewhere ↦ rw elsewhere refl
    ]

-- the look-ups: of the put row's key, and of any other
pub find-put : {T : Type 0} (key : T → ℕ) (row : T) (rows : List T) (k : ℕ) → find_key key k (put key row rows) ≡ cond (eqb (key row) k) (Some row) (find_key key k rows)
find-put key row [] k = refl
find-put key row (first ∷ rows) k =
    elim (cases_Bool (ltb (key row) (key first))) [
      | inl less ↦ rw less refl
      | inr more ↦
          elim (cases_Bool (eqb (key row) (key first))) [
            | inl same ↦
                let e : key row ≡ key first = eqb-true (key row) (key first) same in
                rw (more, same, ← e) (cond_twice (eqb (key row) k) (Some row) (Some first) (find_key key k rows))
            | inr other ↦
                let e : key row ≡ key first → ⊥ = eqb-false (key row) (key first) other in
                rw (more, other, find-put key row rows k) (cond_swap (key row) (key first) k (Some row) (Some first) (find_key key k rows) e)
          ]
    ]

-- ---- a range

pub filter-range : {T : Type 0} (p : T → Bool) (rows : List T) (i n : ℕ) → i + n ≤ length rows → AllWithin (λ x. p x ≡ false) rows 0 i → AllWithin (λ x. p x ≡ true) rows i (i + n)
    → AllWithin (λ x. p x ≡ false) rows (i + n) (length rows) → filter p rows ≡ take n (drop i rows)
filter-range p [] zero zero le below within above = refl
filter-range p [] zero (suc n) le below within above = absurd (omega arith)
filter-range p [] (suc i) n le below within above = absurd (omega arith)
filter-range p (row ∷ rows) zero zero le below within above =
    rw (above 0 row (omega arith) (omega arith)) (filter-range p rows zero zero (omega arith) (λ k d lo hi. absurd (omega arith)) (λ k d lo hi. absurd (omega arith)) (λ k d lo hi. above (suc k) d (omega arith) (omega arith)))
filter-range p (row ∷ rows) zero (suc n) le below within above =
    rw (within 0 row (omega arith) (omega arith))
    (ap (λ (xs : List _). row ∷ xs) (filter-range p rows zero n (omega arith) (λ k d lo hi. absurd (omega arith)) (λ k d lo hi. within (suc k) d (omega arith) (omega arith)) (λ k d lo hi. above (suc k) d (omega arith) (omega arith))))
filter-range p (row ∷ rows) (suc i) n le below within above =
    rw (below 0 row (omega arith) (omega arith))
    (filter-range p rows i n (omega arith) (λ k d lo hi. below (suc k) d (omega arith) (omega arith)) (λ k d lo hi. within (suc k) d (omega arith) (omega arith)) (λ k d lo hi. above (suc k) d (omega arith) (omega arith)))

-- what two searches found is the range between them
pub range-order : {T : Type 0} (key : T → ℕ) (rows : List T) (low high i j : ℕ) → low ≤ high → i ≤ length rows → AllWithin (λ x. key x < low) rows 0 i → AllWithin (λ x. high ≤ key x) rows j (length rows) → i ≤ j
range-order key [] low high i j le bound below above = omega arith
range-order key (row ∷ rows) low high i j le bound below above =
    elim (cases_lt j i) [
      | inl less ↦ absurd (omega (arith, below j row (omega arith) less, above j row (omega arith) (omega arith)))
      | inr more ↦ more
    ]

pub range-found : {T : Type 0} (key : T → ℕ) (rows : List T) (low high i j : ℕ) → low ≤ high → i ≤ length rows → j ≤ length rows → AllWithin (λ x. key x < low) rows 0 i → AllWithin (λ x. low ≤ key x) rows i (length rows)
    → AllWithin (λ x. key x < high) rows 0 j → AllWithin (λ x. high ≤ key x) rows j (length rows) → slice_range rows i j ≡ filter (λ x. leb low (key x) && ltb (key x) high) rows
range-found key rows low high i j le bi bj b1 a1 b2 a2 =
    let order = range-order key rows low high i j le bi b1 a2 in
    sym (filter-range (λ x. leb low (key x) && ltb (key x) high) rows i (j - i) (omega arith)
    (λ k d lo hi. and_left _ _ (lt-leb low (key (get_or rows k d)) (b1 k d lo hi)))
    (λ k d lo hi. and_from _ _ (le-leb low (key (get_or rows k d)) (a1 k d lo (omega arith))) (lt-ltb (key (get_or rows k d)) high (b2 k d (omega arith) (omega arith))))
    (λ k d lo hi. and_right _ _ (le-ltb (key (get_or rows k d)) high (a2 k d (omega arith) hi))))

-- ---- a row taken away

pub without-above : {T : Type 0} (key : T → ℕ) (k low : ℕ) (rows : List T) → k < low → ascends key low rows ≡ true → without key k rows ≡ rows
without-above key k low [] h up = refl
without-above key k low (row ∷ rows) h up =
    let parts = and_parts (leb low (key row)) (ascends key (key row + 1) rows) up in
    let above : low ≤ key row = leb-true low (key row) parts.0 in
    rw (ne_eqb (key row) k (λ e. absurd (omega arith))) (ap (λ (xs : List _). row ∷ xs) (without-above key k (key row + 1) rows (omega arith) parts.1))

abbrev pub without_over : {T : Type 0} → (T → ℕ) → ℕ → List T → List T
without_over key k [] = []
without_over key k (row ∷ rows) = cond (eqb (key row) k) rows (row ∷ rows)

pub without-placed : {T : Type 0} (key : T → ℕ) (k low : ℕ) (rows : List T) (i : ℕ) → ascends key low rows ≡ true → i ≤ length rows
    → AllWithin (λ x. key x < k) rows 0 i → AllWithin (λ x. k ≤ key x) rows i (length rows) → without key k rows ≡ take i rows ++ without_over key k (drop i rows)
without-placed key k low [] zero up le below above = refl
without-placed key k low [] (suc i) up le below above = absurd (omega arith)
without-placed key k low (row ∷ rows) zero up le below above =
    let parts = and_parts (leb low (key row)) (ascends key (key row + 1) rows) up in
    let here : k ≤ key row = above 0 row (omega arith) (omega arith) in
    elim (cases_Bool (eqb (key row) k)) [
      | inl same ↦ (let e : key row ≡ k = eqb-true (key row) k same in rw same (without-above key k (key row + 1) rows (omega arith) parts.1))
      | inr other ↦ (let e : key row ≡ k → ⊥ = eqb-false (key row) k other in let far : k < key row + 1 = omega arith in rw other (ap (λ (xs : List _). row ∷ xs) (without-above key k (key row + 1) rows far parts.1)))
    ]
without-placed key k low (row ∷ rows) (suc i) up le below above =
    let parts = and_parts (leb low (key row)) (ascends key (key row + 1) rows) up in
    let here : key row < k = below 0 row (omega arith) (omega arith) in
    rw (ne_eqb (key row) k (λ e. absurd (omega arith)))
    (ap (λ (xs : List _). row ∷ xs) (without-placed key k (key row + 1) rows i parts.1 (omega arith) (λ j d lo hi. below (suc j) d (omega arith) (omega arith)) (λ j d lo hi. above (suc j) d (omega arith) (omega arith))))

without_over-found : {T : Type 0} (key : T → ℕ) (k : ℕ) (rows : List T) (i : ℕ) (d : T) → i < length rows → key (get_or rows i d) ≡ k → take i rows ++ without_over key k (drop i rows) ≡ remove rows i
without_over-found key k [] i d lt e = absurd (omega arith)
without_over-found key k (row ∷ rows) zero d lt e = rw (eq-eqb (key row) k e) refl
without_over-found key k (row ∷ rows) (suc i) d lt e = ap (λ (xs : List _). row ∷ xs) (without_over-found key k rows i d (omega arith) e)

without_over-missed : {T : Type 0} (key : T → ℕ) (k : ℕ) (rows : List T) (i : ℕ) → ((d : T) → i < length rows → key (get_or rows i d) ≡ k → ⊥) → take i rows ++ without_over key k (drop i rows) ≡ rows
without_over-missed key k [] zero other = refl
without_over-missed key k [] (suc i) other = refl
without_over-missed key k (row ∷ rows) zero other = rw (ne_eqb (key row) k (other row (omega arith))) refl
without_over-missed key k (row ∷ rows) (suc i) other = ap (λ (xs : List _). row ∷ xs) (without_over-missed key k rows i (λ d lt e. other d (omega arith) e))

pub without-found : {T : Type 0} (key : T → ℕ) (k : ℕ) (rows seen : List T) (i : ℕ) (x : T) → seen ≡ rows → ascends key 0 rows ≡ true → i ≤ length seen → AllWithin (λ y. key y < k) seen 0 i → AllWithin (λ y. k ≤ key y) seen i (length seen)
    → i < length rows → x ≡ get_or rows i x → key x ≡ k → remove rows i ≡ without key k rows
without-found {T} key k rows seen i x e up le below above lt is found =
    let le' : i ≤ length rows = rw (← e) le in
    let below' : AllWithin (λ y. key y < k) rows 0 i = rw (← e) below in
    let above' : AllWithin (λ y. k ≤ key y) rows i (length rows) = rw (← e) above in
    sym (without-placed key k 0 rows i up le' below' above' ∙ without_over-found key k rows i x lt (rw (← is) found))

pub without-missed : {T : Type 0} (key : T → ℕ) (k : ℕ) (rows seen : List T) (i : ℕ) → seen ≡ rows → ascends key 0 rows ≡ true → i ≤ length seen → AllWithin (λ y. key y < k) seen 0 i → AllWithin (λ y. k ≤ key y) seen i (length seen)
    → ((d : T) → i < length rows → key (get_or rows i d) ≡ k → ⊥) → rows ≡ without key k rows
without-missed {T} key k rows seen i e up le below above other =
    let le' : i ≤ length rows = rw (← e) le in
    let below' : AllWithin (λ y. key y < k) rows 0 i = rw (← e) below in
    let above' : AllWithin (λ y. k ≤ key y) rows i (length rows) = rw (← e) above in
    sym (without-placed key k 0 rows i up le' below' above' ∙ without_over-missed key k rows i other)

pub ascends-without : {T : Type 0} (key : T → ℕ) (k low : ℕ) (rows : List T) → ascends key low rows ≡ true → ascends key low (without key k rows) ≡ true
ascends-without key k low [] up = refl
ascends-without key k low (row ∷ rows) up =
    let parts = and_parts (leb low (key row)) (ascends key (key row + 1) rows) up in
    let rest = ascends-without key k (key row + 1) rows parts.1 in
    elim (cases_Bool (eqb (key row) k)) [
      | inl same ↦ rw same (ascends-lower key (key row + 1) low (without key k rows) (omega (arith, leb-true low (key row) parts.0)) rest)
      | inr other ↦ rw other (and_from _ _ parts.0 rest)
    ]
