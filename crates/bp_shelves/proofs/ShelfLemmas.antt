-- Lemmas of rows on shelves: the order of all rows, and that what is done on the shelf of a document
-- is done in the list of all rows.
use Rattle.std.proofs.Common.{◌≡◌, ℕ, zero, suc, ◌+◌, ◌-◌, ◌*◌, ◌<◌, ◌≤◌, Bool, true, false, cond, eqb, ltb, leb, ◌&&◌, not, List, [], ◌∷◌, ◌++◌, length, map, get_or, vec_len, Option, Some, None, refl, sym, ap, ◌∙◌, inl, inr, arith}
use Rattle.std.specs.Global.{Vec}
use Rattle.std.specs.List.{filter, list_all, slice_set}
use Rattle.std.specs.Vec.{vec_capacity}
use Rattle.std.proofs.lemmas.Bool.{and_parts, and_from, leb-true, le-leb, ltb-true, ltb-false, lt-ltb, le-ltb, eqb-true, eqb-false, eq-eqb, ne_eqb, cases_Bool, and_left, and_right, lt-leb}
use Rattle.std.proofs.lemmas.List.{append-nil}
use Rattle.std.proofs.lemmas.List.Elements.{filter-append}
use Rattle.std.specs.Prelude.{Result, Ok, Err, is_ok}
use Rattle.std.specs.Result.{IsOk}
use Rattle.bp_core.specs.Sorted.{ascends, find_key, put, without}
use Rattle.bp_core.proofs.SortedLemmas.{all-put, ascends-lower, ascends-put, ascends-without, find-above, without-above}
use Rattle.bp_shelves.specs.Shelves.{are_shelved, rooms_on, rows_on, shelf_fits}

-- ---- where shelves begin

-- the first key of the shelf that stands so many shelves further
abbrev pub start : ℕ → ℕ → ℕ → ℕ
start span low zero = low
start span low (suc place) = start span (low + span) place

pub start-is : (span low place : ℕ) → start span low place ≡ low + place * span
start-is span low zero = omega arith
start-is span low (suc place) = omega (arith, start-is span (low + span) place)

pub first-key : (span place : ℕ) → start span 0 place ≡ place * span
first-key span place = omega (arith, start-is span 0 place)

start-floor : (span low place : ℕ) → low ≤ start span low place
start-floor span low place = omega (arith, start-is span low place)

-- ---- rows one behind the other

ascends-append : {T : Type 0} (key : T → ℕ) (low mid : ℕ) (a b : List T)
    → low ≤ mid
    → ascends key low a ≡ true
    → list_all (λ row. ltb (key row) mid) a ≡ true
    → ascends key mid b ≡ true
    → ascends key low (a ++ b) ≡ true
ascends-append key low mid [] b le up all next = ascends-lower key mid low b le next
ascends-append key low mid (row ∷ a) b le up all next =
    let parts = and_parts (leb low (key row)) (ascends key (key row + 1) a) up in
    let below = and_parts (ltb (key row) mid) (list_all (λ row. ltb (key row) mid) a) all in
    let here : key row + 1 ≤ mid = omega (arith, ltb-true (key row) mid below.0) in
    and_from (leb low (key row)) (ascends key (key row + 1) (a ++ b)) parts.0
    (ascends-append key (key row + 1) mid a b here parts.1 below.1 next)

-- what holds of the first of shelves, and of the others
record FirstShelved {T : Type 0} (key : T → ℕ) (span low : ℕ) (shelf : Vec T) (shelves : List (Vec T))
    : Type 0 where
  fits : shelf_fits key low (low + span) shelf.items ≡ true
  up : ascends key low shelf.items ≡ true
  below : list_all (λ row. ltb (key row) (low + span)) shelf.items ≡ true
  others : are_shelved key span (low + span) shelves ≡ true

first_of : {T : Type 0} (key : T → ℕ) (span low : ℕ) (shelf : Vec T) (shelves : List (Vec T))
    → are_shelved key span low (shelf ∷ shelves) ≡ true
    → FirstShelved key span low shelf shelves
first_of key span low shelf shelves all =
    let parts = and_parts (shelf_fits key low (low + span) shelf.items) (are_shelved key span (low + span) shelves) all in
    let first = and_parts (ascends key low shelf.items) (list_all (λ row. ltb (key row) (low + span)) shelf.items) parts.0 in
    record { fits = parts.0; up = first.0; below = first.1; others = parts.1 }

pub rows_on-ascends : {T : Type 0} (key : T → ℕ) (span low : ℕ) (shelves : List (Vec T))
    → are_shelved key span low shelves ≡ true
    → ascends key low (rows_on shelves) ≡ true
rows_on-ascends key span low [] all = refl
rows_on-ascends key span low (shelf ∷ shelves) all =
    let first = first_of key span low shelf shelves all in
    ascends-append key low (low + span) shelf.items (rows_on shelves) (omega arith) first.up first.below
    (rows_on-ascends key span (low + span) shelves first.others)

all-lower : {T : Type 0} (key : T → ℕ) (high higher : ℕ) (rows : List T)
    → high ≤ higher
    → list_all (λ row. ltb (key row) high) rows ≡ true
    → list_all (λ row. ltb (key row) higher) rows ≡ true
all-lower key high higher [] le all = refl
all-lower key high higher (row ∷ rows) le all =
    let parts = and_parts (ltb (key row) high) (list_all (λ row. ltb (key row) high) rows) all in
    let less : key row < higher = omega (arith, ltb-true (key row) high parts.0) in
    and_from (ltb (key row) higher) (list_all (λ row. ltb (key row) higher) rows) (lt-ltb (key row) higher less)
    (all-lower key high higher rows le parts.1)

-- ---- look-ups

find-below : {T : Type 0} (key : T → ℕ) (k high : ℕ) (rows : List T)
    → high ≤ k
    → list_all (λ row. ltb (key row) high) rows ≡ true
    → find_key key k rows ≡ None
find-below key k high [] le all = refl
find-below key k high (row ∷ rows) le all =
    let parts = and_parts (ltb (key row) high) (list_all (λ row. ltb (key row) high) rows) all in
    let less = ltb-true (key row) high parts.0 in
    rw (ne_eqb (key row) k (λ e. omega arith)) (find-below key k high rows le parts.1)

find-first : {T : Type 0} (key : T → ℕ) (k : ℕ) (a b : List T)
    → find_key key k b ≡ None
    → find_key key k (a ++ b) ≡ find_key key k a
find-first key k [] b none = none
find-first key k (row ∷ a) b none =
    elim (cases_Bool (eqb (key row) k)) [
      | inl same ↦ rw same refl
      | inr other ↦ rw other (find-first key k a b none)
    ]

find-second : {T : Type 0} (key : T → ℕ) (k : ℕ) (a b : List T)
    → find_key key k a ≡ None
    → find_key key k (a ++ b) ≡ find_key key k b
find-second key k [] b none = refl
find-second key k (row ∷ a) b none =
    elim (cases_Bool (eqb (key row) k)) [
      | inl same ↦ (let found : Some row ≡ None = rw same at none in absurd cc)
      | inr other ↦ rw other (find-second key k a b (rw other at none))
    ]

pub find-shelf : {T : Type 0} (key : T → ℕ) (span low k : ℕ) (shelves : List (Vec T)) (place : ℕ) (shelf : Vec T)
    → are_shelved key span low shelves ≡ true
    → place < length shelves
    → shelf ≡ get_or shelves place shelf
    → start span low place ≤ k
    → k < start span low place + span
    → find_key key k shelf.items ≡ find_key key k (rows_on shelves)
find-shelf key span low k [] place shelf all lt is from to = absurd (omega arith)
find-shelf {T} key span low k (first ∷ shelves) zero shelf all lt is from to =
    let f = first_of key span low first shelves all in
    ap (λ (v : Vec T). find_key key k v.items) is
    ∙ sym (find-first key k first.items (rows_on shelves)
    (find-above key k (low + span) (rows_on shelves) to (rows_on-ascends key span (low + span) shelves f.others)))
find-shelf key span low k (first ∷ shelves) (suc place) shelf all lt is from to =
    let f = first_of key span low first shelves all in
    let floor = start-floor span (low + span) place in
    find-shelf key span (low + span) k shelves place shelf f.others (omega arith) is from to
    ∙ sym (find-second key k first.items (rows_on shelves)
    (find-below key k (low + span) first.items (omega arith) f.below))

pub find-no-shelf : {T : Type 0} (key : T → ℕ) (span low k : ℕ) (shelves : List (Vec T)) (place : ℕ)
    → are_shelved key span low shelves ≡ true
    → length shelves ≤ place
    → start span low place ≤ k
    → None ≡ find_key key k (rows_on shelves)
find-no-shelf key span low k [] place all le from = refl
find-no-shelf key span low k (first ∷ shelves) zero all le from = absurd (omega arith)
find-no-shelf key span low k (first ∷ shelves) (suc place) all le from =
    let f = first_of key span low first shelves all in
    let floor = start-floor span (low + span) place in
    find-no-shelf key span (low + span) k shelves place f.others (omega arith) from
    ∙ sym (find-second key k first.items (rows_on shelves)
    (find-below key k (low + span) first.items (omega arith) f.below))

-- ---- the rows of a document

abbrev between : {T : Type 0} → (T → ℕ) → ℕ → ℕ → T → Bool
between key low high row = leb low (key row) && ltb (key row) high

between-above : {T : Type 0} (key : T → ℕ) (low high from : ℕ) (rows : List T)
    → high ≤ from
    → ascends key from rows ≡ true
    → filter (between key low high) rows ≡ []
between-above key low high from [] le up = refl
between-above key low high from (row ∷ rows) le up =
    let parts = and_parts (leb from (key row)) (ascends key (key row + 1) rows) up in
    let here : from ≤ key row = leb-true from (key row) parts.0 in
    rw (and_right (leb low (key row)) _ (le-ltb (key row) high (omega arith)))
    (between-above key low high (key row + 1) rows (omega arith) parts.1)

between-below : {T : Type 0} (key : T → ℕ) (low high : ℕ) (rows : List T)
    → list_all (λ row. ltb (key row) low) rows ≡ true
    → filter (between key low high) rows ≡ []
between-below key low high [] all = refl
between-below key low high (row ∷ rows) all =
    let parts = and_parts (ltb (key row) low) (list_all (λ row. ltb (key row) low) rows) all in
    rw (and_left _ (ltb (key row) high) (lt-leb low (key row) (ltb-true (key row) low parts.0)))
    (between-below key low high rows parts.1)

between-within : {T : Type 0} (key : T → ℕ) (low high from : ℕ) (rows : List T)
    → low ≤ from
    → ascends key from rows ≡ true
    → list_all (λ row. ltb (key row) high) rows ≡ true
    → filter (between key low high) rows ≡ rows
between-within key low high from [] le up all = refl
between-within key low high from (row ∷ rows) le up all =
    let parts = and_parts (leb from (key row)) (ascends key (key row + 1) rows) up in
    let below = and_parts (ltb (key row) high) (list_all (λ row. ltb (key row) high) rows) all in
    let here : from ≤ key row = leb-true from (key row) parts.0 in
    rw (and_from (leb low (key row)) (ltb (key row) high) (le-leb low (key row) (omega arith)) below.0)
    (ap (λ (xs : List _). row ∷ xs) (between-within key low high (key row + 1) rows (omega arith) parts.1 below.1))

pub on-shelf : {T : Type 0} (key : T → ℕ) (span low : ℕ) (shelves : List (Vec T)) (place : ℕ) (shelf : Vec T)
    → are_shelved key span low shelves ≡ true
    → place < length shelves
    → shelf ≡ get_or shelves place shelf
    → shelf.items ≡ filter (between key (start span low place) (start span low place + span)) (rows_on shelves)
on-shelf key span low [] place shelf all lt is = absurd (omega arith)
on-shelf {T} key span low (first ∷ shelves) zero shelf all lt is =
    let f = first_of key span low first shelves all in
    let p = between key low (low + span) in
    ap (λ (v : Vec T). v.items) is
    ∙ sym (filter-append p first.items (rows_on shelves)
    ∙ rw (
      between-within key low (low + span) low first.items (omega arith) f.up f.below,
      between-above key low (low + span) (low + span) (rows_on shelves) (omega arith) (rows_on-ascends key span (low + span) shelves f.others),
    )
    (append-nil first.items))
on-shelf key span low (first ∷ shelves) (suc place) shelf all lt is =
    let f = first_of key span low first shelves all in
    let from = start span (low + span) place in
    let floor = start-floor span (low + span) place in
    on-shelf key span (low + span) shelves place shelf f.others (omega arith) is
    ∙ sym (filter-append (between key from (from + span)) first.items (rows_on shelves)
    ∙ rw (between-below key from (from + span) first.items (all-lower key (low + span) from first.items floor f.below)) refl)

pub on-no-shelf : {T : Type 0} (key : T → ℕ) (span low : ℕ) (shelves : List (Vec T)) (place : ℕ)
    → are_shelved key span low shelves ≡ true
    → length shelves ≤ place
    → [] ≡ filter (between key (start span low place) (start span low place + span)) (rows_on shelves)
on-no-shelf key span low [] place all le = refl
on-no-shelf key span low (first ∷ shelves) zero all le = absurd (omega arith)
on-no-shelf key span low (first ∷ shelves) (suc place) all le =
    let f = first_of key span low first shelves all in
    let from = start span (low + span) place in
    let floor = start-floor span (low + span) place in
    on-no-shelf key span (low + span) shelves place f.others (omega arith)
    ∙ sym (filter-append (between key from (from + span)) first.items (rows_on shelves)
    ∙ rw (between-below key from (from + span) first.items (all-lower key (low + span) from first.items floor f.below)) refl)

-- ---- a row put

put-first : {T : Type 0} (key : T → ℕ) (row : T) (mid : ℕ) (a b : List T)
    → key row < mid
    → ascends key mid b ≡ true
    → put key row (a ++ b) ≡ put key row a ++ b
put-first key row mid [] [] less up = refl
put-first key row mid [] (first ∷ b) less up =
    let parts = and_parts (leb mid (key first)) (ascends key (key first + 1) b) up in
    let here : mid ≤ key first = leb-true mid (key first) parts.0 in
    rw (lt-ltb (key row) (key first) (omega arith)) refl
put-first key row mid (first ∷ a) b less up =
    elim (cases_Bool (ltb (key row) (key first))) [
      | inl before ↦ rw before refl
      | inr after ↦
          elim (cases_Bool (eqb (key row) (key first))) [
            | inl same ↦ rw (after, same) refl
            | inr other ↦ rw (after, other) (ap (λ (xs : List _). first ∷ xs) (put-first key row mid a b less up))
          ]
    ]

put-second : {T : Type 0} (key : T → ℕ) (row : T) (a b : List T)
    → list_all (λ x. ltb (key x) (key row)) a ≡ true
    → put key row (a ++ b) ≡ a ++ put key row b
put-second key row [] b all = refl
put-second key row (first ∷ a) b all =
    let parts = and_parts (ltb (key first) (key row)) (list_all (λ x. ltb (key x) (key row)) a) all in
    let less : key first < key row = ltb-true (key first) (key row) parts.0 in
    rw (le-ltb (key row) (key first) (omega arith), ne_eqb (key row) (key first) (λ e. omega arith))
    (ap (λ (xs : List _). first ∷ xs) (put-second key row a b parts.1))

pub put-shelf : {T : Type 0} (key : T → ℕ) (span low : ℕ) (row : T) (shelves : List (Vec T)) (place : ℕ) (shelf new : Vec T)
    → are_shelved key span low shelves ≡ true
    → place < length shelves
    → shelf ≡ get_or shelves place shelf
    → start span low place ≤ key row
    → key row < start span low place + span
    → new.items ≡ put key row shelf.items
    → rows_on (slice_set shelves place new) ≡ put key row (rows_on shelves)
put-shelf key span low row [] place shelf new all lt is from to made = absurd (omega arith)
put-shelf {T} key span low row (first ∷ shelves) zero shelf new all lt is from to made =
    let f = first_of key span low first shelves all in
    let made' : new.items ≡ put key row first.items = made ∙ ap (λ (v : Vec T). put key row v.items) is in
    rw made' (sym (put-first key row (low + span) first.items (rows_on shelves) to (rows_on-ascends key span (low + span) shelves f.others)))
put-shelf key span low row (first ∷ shelves) (suc place) shelf new all lt is from to made =
    let f = first_of key span low first shelves all in
    let floor = start-floor span (low + span) place in
    let rest = put-shelf key span (low + span) row shelves place shelf new f.others (omega arith) is from to made in
    let below = all-lower key (low + span) (key row) first.items (omega arith) f.below in
    ap (λ (xs : List _). first.items ++ xs) rest ∙ sym (put-second key row first.items (rows_on shelves) below)

-- a row behind all others
before-ascends : {T : Type 0} (key : T → ℕ) (low : ℕ) (a : List T) (row : T) (b : List T)
    → ascends key low (a ++ row ∷ b) ≡ true
    → low ≤ key row
before-ascends key low [] row b up = leb-true low (key row) (and_parts (leb low (key row)) (ascends key (key row + 1) b) up).0
before-ascends key low (first ∷ a) row b up =
    let parts = and_parts (leb low (key first)) (ascends key (key first + 1) (a ++ row ∷ b)) up in
    omega (arith, leb-true low (key first) parts.0, before-ascends key (key first + 1) a row b parts.1)

before-below : {T : Type 0} (key : T → ℕ) (low : ℕ) (a : List T) (row : T) (b : List T)
    → ascends key low (a ++ row ∷ b) ≡ true
    → list_all (λ x. ltb (key x) (key row)) a ≡ true
before-below key low [] row b up = refl
before-below key low (first ∷ a) row b up =
    let parts = and_parts (leb low (key first)) (ascends key (key first + 1) (a ++ row ∷ b)) up in
    let less : key first < key row = omega (arith, before-ascends key (key first + 1) a row b parts.1) in
    and_from (ltb (key first) (key row)) (list_all (λ x. ltb (key x) (key row)) a) (lt-ltb (key first) (key row) less)
    (before-below key (key first + 1) a row b parts.1)

pub put-last : {T : Type 0} (key : T → ℕ) (low : ℕ) (a : List T) (row : T) (b : List T)
    → ascends key low (a ++ row ∷ b) ≡ true
    → put key row a ≡ a ++ row ∷ []
put-last key low a row b up =
    ap (λ (xs : List _). put key row xs) (sym (append-nil a)) ∙ put-second key row a [] (before-below key low a row b up)

-- ---- a row taken away

without-below : {T : Type 0} (key : T → ℕ) (k high : ℕ) (rows : List T)
    → high ≤ k
    → list_all (λ row. ltb (key row) high) rows ≡ true
    → without key k rows ≡ rows
without-below key k high [] le all = refl
without-below key k high (row ∷ rows) le all =
    let parts = and_parts (ltb (key row) high) (list_all (λ row. ltb (key row) high) rows) all in
    let less = ltb-true (key row) high parts.0 in
    rw (ne_eqb (key row) k (λ e. omega arith)) (ap (λ (xs : List _). row ∷ xs) (without-below key k high rows le parts.1))

pub without-shelf : {T : Type 0} (key : T → ℕ) (span low k : ℕ) (shelves : List (Vec T)) (place : ℕ) (shelf new : Vec T)
    → are_shelved key span low shelves ≡ true
    → place < length shelves
    → shelf ≡ get_or shelves place shelf
    → start span low place ≤ k
    → k < start span low place + span
    → new.items ≡ without key k shelf.items
    → rows_on (slice_set shelves place new) ≡ without key k (rows_on shelves)
without-shelf key span low k [] place shelf new all lt is from to made = absurd (omega arith)
without-shelf {T} key span low k (first ∷ shelves) zero shelf new all lt is from to made =
    let f = first_of key span low first shelves all in
    let made' : new.items ≡ without key k first.items = made ∙ ap (λ (v : Vec T). without key k v.items) is in
    rw made' (sym (filter-append (λ row. not (eqb (key row) k)) first.items (rows_on shelves)
    ∙ ap (λ (xs : List _). without key k first.items ++ xs)
    (without-above key k (low + span) (rows_on shelves) to (rows_on-ascends key span (low + span) shelves f.others))))
without-shelf key span low k (first ∷ shelves) (suc place) shelf new all lt is from to made =
    let f = first_of key span low first shelves all in
    let floor = start-floor span (low + span) place in
    let rest = without-shelf key span (low + span) k shelves place shelf new f.others (omega arith) is from to made in
    ap (λ (xs : List _). first.items ++ xs) rest
    ∙ sym (filter-append (λ row. not (eqb (key row) k)) first.items (rows_on shelves)
    ∙ rw (without-below key k (low + span) first.items (omega arith) f.below) refl)

pub without-no-shelf : {T : Type 0} (key : T → ℕ) (span low k : ℕ) (shelves : List (Vec T)) (place : ℕ)
    → are_shelved key span low shelves ≡ true
    → length shelves ≤ place
    → start span low place ≤ k
    → rows_on shelves ≡ without key k (rows_on shelves)
without-no-shelf key span low k [] place all le from = refl
without-no-shelf key span low k (first ∷ shelves) zero all le from = absurd (omega arith)
without-no-shelf key span low k (first ∷ shelves) (suc place) all le from =
    let f = first_of key span low first shelves all in
    let floor = start-floor span (low + span) place in
    let rest = without-no-shelf key span (low + span) k shelves place f.others (omega arith) from in
    ap (λ (xs : List _). first.items ++ xs) rest
    ∙ sym (filter-append (λ row. not (eqb (key row) k)) first.items (rows_on shelves)
    ∙ rw (without-below key k (low + span) first.items (omega arith) f.below) refl)

-- ---- what a change of one shelf leaves

fits-of : {T : Type 0} (key : T → ℕ) (span low : ℕ) (shelves : List (Vec T)) (place : ℕ) (shelf : Vec T)
    → are_shelved key span low shelves ≡ true
    → place < length shelves
    → shelf ≡ get_or shelves place shelf
    → shelf_fits key (start span low place) (start span low place + span) shelf.items ≡ true
fits-of key span low [] place shelf all lt is = absurd (omega arith)
fits-of {T} key span low (first ∷ shelves) zero shelf all lt is =
    ap (λ (v : Vec T). shelf_fits key low (low + span) v.items) is ∙ (first_of key span low first shelves all).fits
fits-of key span low (first ∷ shelves) (suc place) shelf all lt is =
    fits-of key span (low + span) shelves place shelf (first_of key span low first shelves all).others (omega arith) is

fits-ascends : {T : Type 0} (key : T → ℕ) (low high : ℕ) (rows : List T) → shelf_fits key low high rows ≡ true → ascends key 0 rows ≡ true
fits-ascends key low high rows fits =
    ascends-lower key low 0 rows (omega arith) (and_parts (ascends key low rows) (list_all (λ row. ltb (key row) high) rows) fits).0

fits-put : {T : Type 0} (key : T → ℕ) (low high : ℕ) (row : T) (rows : List T)
    → shelf_fits key low high rows ≡ true
    → low ≤ key row
    → key row < high
    → shelf_fits key low high (put key row rows) ≡ true
fits-put key low high row rows fits from to =
    let parts = and_parts (ascends key low rows) (list_all (λ row. ltb (key row) high) rows) fits in
    and_from (ascends key low (put key row rows)) (list_all (λ row. ltb (key row) high) (put key row rows))
    (ascends-put key low row rows parts.0 from)
    (all-put key (λ row. ltb (key row) high) row rows parts.1 (lt-ltb (key row) high to))

all-filter : {T : Type 0} (p q : T → Bool) (rows : List T) → list_all p rows ≡ true → list_all p (filter q rows) ≡ true
all-filter p q [] all = refl
all-filter p q (row ∷ rows) all =
    let parts = and_parts (p row) (list_all p rows) all in
    elim (cases_Bool (q row)) [
      | inl taken ↦ rw taken (and_from (p row) (list_all p (filter q rows)) parts.0 (all-filter p q rows parts.1))
      | inr left ↦ rw left (all-filter p q rows parts.1)
    ]

fits-without : {T : Type 0} (key : T → ℕ) (low high k : ℕ) (rows : List T)
    → shelf_fits key low high rows ≡ true
    → shelf_fits key low high (without key k rows) ≡ true
fits-without key low high k rows fits =
    let parts = and_parts (ascends key low rows) (list_all (λ row. ltb (key row) high) rows) fits in
    and_from (ascends key low (without key k rows)) (list_all (λ row. ltb (key row) high) (without key k rows))
    (ascends-without key k low rows parts.0)
    (all-filter (λ row. ltb (key row) high) (λ row. not (eqb (key row) k)) rows parts.1)

shelved-set : {T : Type 0} (key : T → ℕ) (span low : ℕ) (shelves : List (Vec T)) (place : ℕ) (new : Vec T)
    → are_shelved key span low shelves ≡ true
    → shelf_fits key (start span low place) (start span low place + span) new.items ≡ true
    → are_shelved key span low (slice_set shelves place new) ≡ true
shelved-set key span low [] place new all fits = refl
shelved-set key span low (first ∷ shelves) zero new all fits =
    and_from (shelf_fits key low (low + span) new.items) (are_shelved key span (low + span) shelves) fits
    (first_of key span low first shelves all).others
shelved-set key span low (first ∷ shelves) (suc place) new all fits =
    let f = first_of key span low first shelves all in
    and_from (shelf_fits key low (low + span) first.items) (are_shelved key span (low + span) (slice_set shelves place new)) f.fits
    (shelved-set key span (low + span) shelves place new f.others fits)

pub shelved-same : {T : Type 0} (key : T → ℕ) (span : ℕ) (shelves : List (Vec T)) (place : ℕ) (shelf new : Vec T)
    → are_shelved key span 0 shelves ≡ true
    → place < length shelves
    → shelf ≡ get_or shelves place shelf
    → new.items ≡ shelf.items
    → are_shelved key span 0 (slice_set shelves place new) ≡ true
shelved-same key span shelves place shelf new all lt is same =
    shelved-set key span 0 shelves place new all (rw same (fits-of key span 0 shelves place shelf all lt is))

pub shelved-put : {T : Type 0} (key : T → ℕ) (span : ℕ) (row : T) (shelves : List (Vec T)) (place : ℕ) (shelf new : Vec T)
    → are_shelved key span 0 shelves ≡ true
    → place < length shelves
    → shelf ≡ get_or shelves place shelf
    → start span 0 place ≤ key row
    → key row < start span 0 place + span
    → new.items ≡ put key row shelf.items
    → are_shelved key span 0 (slice_set shelves place new) ≡ true
shelved-put key span row shelves place shelf new all lt is from to made =
    shelved-set key span 0 shelves place new all
    (rw made (fits-put key (start span 0 place) (start span 0 place + span) row shelf.items (fits-of key span 0 shelves place shelf all lt is) from to))

pub shelved-without : {T : Type 0} (key : T → ℕ) (span k : ℕ) (shelves : List (Vec T)) (place : ℕ) (shelf new : Vec T)
    → are_shelved key span 0 shelves ≡ true
    → place < length shelves
    → shelf ≡ get_or shelves place shelf
    → new.items ≡ without key k shelf.items
    → are_shelved key span 0 (slice_set shelves place new) ≡ true
shelved-without key span k shelves place shelf new all lt is made =
    shelved-set key span 0 shelves place new all
    (rw made (fits-without key (start span 0 place) (start span 0 place + span) k shelf.items (fits-of key span 0 shelves place shelf all lt is)))

-- a shelf is in order
pub shelf-ascends : {T : Type 0} (key : T → ℕ) (span : ℕ) (shelves : List (Vec T)) (place : ℕ) (shelf : Vec T)
    → are_shelved key span 0 shelves ≡ true
    → place < length shelves
    → shelf ≡ get_or shelves place shelf
    → ascends key 0 shelf.items ≡ true
shelf-ascends key span shelves place shelf all lt is =
    fits-ascends key (start span 0 place) (start span 0 place + span) shelf.items (fits-of key span 0 shelves place shelf all lt is)

-- the same rows on a shelf
pub rows_on-set : {T : Type 0} (shelves : List (Vec T)) (place : ℕ) (shelf new : Vec T)
    → place < length shelves
    → shelf ≡ get_or shelves place shelf
    → new.items ≡ shelf.items
    → rows_on (slice_set shelves place new) ≡ rows_on shelves
rows_on-set [] place shelf new lt is same = absurd (omega arith)
rows_on-set {T} (first ∷ shelves) zero shelf new lt is same =
    let e : new.items ≡ first.items = same ∙ ap (λ (v : Vec T). v.items) is in rw e refl
rows_on-set (first ∷ shelves) (suc place) shelf new lt is same =
    ap (λ (xs : List _). first.items ++ xs) (rows_on-set shelves place shelf new (omega arith) is same)

-- an empty shelf more
pub rows_on-more : {T : Type 0} (shelves : List (Vec T)) (new : Vec T) → new.items ≡ [] → rows_on (shelves ++ new ∷ []) ≡ rows_on shelves
rows_on-more [] new empty = rw empty refl
rows_on-more (first ∷ shelves) new empty = ap (λ (xs : List _). first.items ++ xs) (rows_on-more shelves new empty)

pub shelved-more : {T : Type 0} (key : T → ℕ) (span low : ℕ) (shelves : List (Vec T)) (new : Vec T)
    → new.items ≡ []
    → are_shelved key span low shelves ≡ true
    → are_shelved key span low (shelves ++ new ∷ []) ≡ true
shelved-more key span low [] new empty all = rw empty refl
shelved-more key span low (first ∷ shelves) new empty all =
    let f = first_of key span low first shelves all in
    and_from (shelf_fits key low (low + span) first.items) (are_shelved key span (low + span) (shelves ++ new ∷ [])) f.fits
    (shelved-more key span (low + span) shelves new empty f.others)

-- ---- room

pub room-there : {T : Type 0} (shelves : List (Vec T)) (place : ℕ) → 1 ≤ get_or (rooms_on shelves) place 0 → place < length shelves
room-there [] place room = absurd (omega arith)
room-there (first ∷ shelves) zero room = omega arith
room-there (first ∷ shelves) (suc place) room = omega (arith, room-there shelves place room)

pub room-of : {T : Type 0} (shelves : List (Vec T)) (place : ℕ) (shelf : Vec T)
    → place < length shelves
    → shelf ≡ get_or shelves place shelf
    → get_or (rooms_on shelves) place 0 ≡ vec_capacity shelf - vec_len shelf
room-of [] place shelf lt is = absurd (omega arith)
room-of {T} (first ∷ shelves) zero shelf lt is = ap (λ (v : Vec T). vec_capacity v - vec_len v) (sym is)
room-of (first ∷ shelves) (suc place) shelf lt is = room-of shelves place shelf (omega arith) is

pub room-set : {T : Type 0} (shelves : List (Vec T)) (place : ℕ) (new : Vec T)
    → place < length shelves
    → get_or (rooms_on (slice_set shelves place new)) place 0 ≡ vec_capacity new - vec_len new
room-set [] place new lt = absurd (omega arith)
room-set (first ∷ shelves) zero new lt = refl
room-set (first ∷ shelves) (suc place) new lt = room-set shelves place new (omega arith)

-- what a call gives that has room
pub with-room : {A E T : Type 0} (r : Result A E) (shelf new : Vec T) (x y : List T)
    → new.items ≡ cond (is_ok r) x y
    → (vec_len shelf < vec_capacity shelf → IsOk r)
    → 1 ≤ vec_capacity shelf - vec_len shelf
    → new.items ≡ x
with-room (Ok a) shelf new x y is ok room = is
with-room (Err e) shelf new x y is ok room = let no : false ≡ true = ok (omega arith) in absurd cc
