-- Carry what the tree of slots holds from one change of it to the next.
use Rattle.std.proofs.Common.{◌≡◌, ℕ, ◌+◌, ◌<◌, ◌≤◌, Bool, true, false, eqb, ltb, leb, List, [], ◌∷◌, ◌++◌, append_assoc, Option, Some, None, refl, sym, ap, ◌∙◌, inl, inr, arith}
use Rattle.std.specs.Prelude.{is_some, Result, Ok, Err, OnOk, OnErr}
use Rattle.std.specs.Ordering.{nat_cmp}
use Rattle.std.specs.Map.{lookup, remove_entry}
use Rattle.std.specs.BTreeMap.{insert_entry, is_at}
use Rattle.std.proofs.lemmas.Bool.{and_parts, and_from, leb-true, le-leb, ltb-true, ltb-false, lt-ltb, le-ltb, eqb-true, eqb-false, eq-eqb, ne_eqb, cases_Bool}
use Rattle.bp_core.specs.declared.kept.Row.{Row}
use Rattle.bp_core.specs.Sorted.{ascends, put, row_key}
use Rattle.bp_core.proofs.SortedLemmas.{ascends-lower, without-above}
use Rattle.bp_keep.specs.Puts.{set_row}
use Rattle.bp_keep.specs.Slots.{fits_slot, in_order, row_before, held, has_slot}

-- ---- the order

-- what the order says of the first slot
record FirstInOrder (low : ℕ) (slot : ℕ × Option Row) (slots : List (ℕ × Option Row)) : Type 0 where
  from : low ≤ slot.0
  fits : fits_slot slot.0 slot.1 ≡ true
  others : in_order (slot.0 + 1) slots ≡ true

first_of : (low : ℕ) (slot : ℕ × Option Row) (slots : List (ℕ × Option Row))
    → in_order low (slot ∷ slots) ≡ true
    → FirstInOrder low slot slots
first_of low slot slots ordered =
    let parts = and_parts (leb low slot.0) _ ordered in
    let rest = and_parts (fits_slot slot.0 slot.1) (in_order (slot.0 + 1) slots) parts.1 in
    record { from = leb-true low slot.0 parts.0; fits = rest.0; others = rest.1 }

in_order-from : (low : ℕ) (slot : ℕ × Option Row) (slots : List (ℕ × Option Row))
    → low ≤ slot.0
    → fits_slot slot.0 slot.1 ≡ true
    → in_order (slot.0 + 1) slots ≡ true
    → in_order low (slot ∷ slots) ≡ true
in_order-from low slot slots from fits others =
    and_from (leb low slot.0) _ (le-leb low slot.0 from)
    (and_from (fits_slot slot.0 slot.1) (in_order (slot.0 + 1) slots) fits others)

pub in_order-insert : (low key : ℕ) (row : Option Row) (slots : List (ℕ × Option Row))
    → in_order low slots ≡ true
    → low ≤ key
    → fits_slot key row ≡ true
    → in_order low (insert_entry nat_cmp slots key row) ≡ true
in_order-insert low key row [] ordered from fits = in_order-from low (key, row) [] from fits refl
in_order-insert low key row (slot ∷ slots) ordered from fits =
    let first = first_of low slot slots ordered in
    elim (cases_Bool (ltb key slot.0)) [
      | inl less ↦
          let above : key + 1 ≤ slot.0 = omega (arith, ltb-true key slot.0 less) in
          let others = in_order-from (key + 1) slot slots above first.fits first.others in
          rw less (in_order-from low (key, row) (slot ∷ slots) from fits others)
      | inr more ↦
          elim (cases_Bool (eqb key slot.0)) [
            | inl same ↦
                let e : key ≡ slot.0 = eqb-true key slot.0 same in
                let here : fits_slot slot.0 row ≡ true = rw (← e) fits in
                rw (more, same)
                (in_order-from low (slot.0, row) slots first.from here first.others)
            | inr other ↦
                let above : slot.0 + 1 ≤ key =
                omega (arith, ltb-false key slot.0 more, eqb-false key slot.0 other) in
                let others =
                in_order-insert (slot.0 + 1) key row slots first.others above fits in
                rw (more, other)
                (in_order-from low slot (insert_entry nat_cmp slots key row) first.from first.fits
                others)
          ]
    ]

-- the order is the same of a lower start
in_order-lower : (low start : ℕ) (slots : List (ℕ × Option Row))
    → start ≤ low
    → in_order low slots ≡ true
    → in_order start slots ≡ true
in_order-lower low start [] below ordered = refl
in_order-lower low start (slot ∷ slots) below ordered =
    let first = first_of low slot slots ordered in
    let from : start ≤ slot.0 = omega (arith, first.from) in
    in_order-from start slot slots from first.fits first.others

pub in_order-remove : (test : ℕ → Bool) (low : ℕ) (slots : List (ℕ × Option Row))
    → in_order low slots ≡ true
    → in_order low (remove_entry test slots) ≡ true
in_order-remove test low [] ordered = refl
in_order-remove test low (slot ∷ slots) ordered =
    let first = first_of low slot slots ordered in
    let below : low ≤ slot.0 + 1 = omega (arith, first.from) in
    elim (cases_Bool (test slot.0)) [
      | inl there ↦ rw there (in_order-lower (slot.0 + 1) low slots below first.others)
      | inr other ↦
          let others = in_order-remove test (slot.0 + 1) slots first.others in
          rw other
          (in_order-from low slot (remove_entry test slots) first.from first.fits others)
    ]

ascends-row_before : (low key : ℕ) (slot : Option Row) (rows : List Row)
    → low ≤ key
    → fits_slot key slot ≡ true
    → ascends row_key (key + 1) rows ≡ true
    → ascends row_key low (row_before slot rows) ≡ true
ascends-row_before low key None rows from fits up =
    ascends-lower row_key (key + 1) low rows (omega arith) up
ascends-row_before low key (Some row) rows from fits up =
    let e : row_key row ≡ key = eqb-true (row_key row) key fits in
    let here : low ≤ row_key row = rw e from in
    and_from (leb low (row_key row)) _ (le-leb low (row_key row) here) (rw e up)

-- the rows ascend
pub ascends-held : (low : ℕ) (slots : List (ℕ × Option Row))
    → in_order low slots ≡ true
    → ascends row_key low (held slots) ≡ true
ascends-held low [] ordered = refl
ascends-held low (slot ∷ slots) ordered =
    let first = first_of low slot slots ordered in
    let up = ascends-held (slot.0 + 1) slots first.others in
    ascends-row_before low slot.0 slot.1 (held slots) first.from first.fits up

-- ---- a filled slot

put-below : (row : Row) (low : ℕ) (rows : List Row)
    → ascends row_key low rows ≡ true
    → row_key row < low
    → put row_key row rows ≡ row ∷ rows
put-below row low [] up below = refl
put-below row low (first ∷ rows) up below =
    let parts = and_parts (leb low (row_key first)) _ up in
    let less : row_key row < row_key first =
    omega (arith, leb-true low (row_key first) parts.0) in
    rw (lt-ltb (row_key row) (row_key first) less) refl

-- below all rows
set_row-below : (key low : ℕ) (row : Option Row) (rows : List Row)
    → ascends row_key low rows ≡ true
    → key < low
    → fits_slot key row ≡ true
    → set_row key row rows ≡ row_before row rows
set_row-below key low None rows up below fits = without-above row_key key low rows below up
set_row-below key low (Some row) rows up below fits =
    let e : row_key row ≡ key = eqb-true (row_key row) key fits in
    put-below row low rows up (rw e below)

-- at the first slot
set_row-here : (key : ℕ) (row slot : Option Row) (rows : List Row)
    → ascends row_key (key + 1) rows ≡ true
    → fits_slot key row ≡ true
    → fits_slot key slot ≡ true
    → set_row key row (row_before slot rows) ≡ row_before row rows
set_row-here key row None rows up fits there =
    set_row-below key (key + 1) row rows up (omega arith) fits
set_row-here key None (Some old) rows up fits there =
    rw there (without-above row_key key (key + 1) rows (omega arith) up)
set_row-here key (Some row) (Some old) rows up fits there =
    let e : row_key row ≡ key = eqb-true (row_key row) key fits in
    let e' : row_key old ≡ key = eqb-true (row_key old) key there in
    let same : row_key row ≡ row_key old = e ∙ sym e' in
    rw (le-ltb (row_key row) (row_key old) (omega arith), eq-eqb (row_key row) (row_key old) same)
    refl

-- behind the first slot
set_row-behind : (key before : ℕ) (row slot : Option Row) (rows : List Row)
    → before < key
    → fits_slot key row ≡ true
    → fits_slot before slot ≡ true
    → set_row key row (row_before slot rows) ≡ row_before slot (set_row key row rows)
set_row-behind key before row None rows below fits there = refl
set_row-behind key before None (Some old) rows below fits there =
    let e' : row_key old ≡ before = eqb-true (row_key old) before there in
    rw (ne_eqb (row_key old) key (λ e. omega arith)) refl
set_row-behind key before (Some row) (Some old) rows below fits there =
    let e : row_key row ≡ key = eqb-true (row_key row) key fits in
    let e' : row_key old ≡ before = eqb-true (row_key old) before there in
    let above : row_key old < row_key row = omega arith in
    let differ : row_key row ≡ row_key old → ⊥ = λ same. omega arith in
    rw (le-ltb (row_key row) (row_key old) (omega arith), ne_eqb (row_key row) (row_key old) differ)
    refl

-- what is put into the tree is put on the rows
pub held-insert : (low key : ℕ) (row : Option Row) (slots : List (ℕ × Option Row))
    → in_order low slots ≡ true
    → fits_slot key row ≡ true
    → held (insert_entry nat_cmp slots key row) ≡ set_row key row (held slots)
held-insert low key row [] ordered fits =
    sym (set_row-below key (key + 1) row [] refl (omega arith) fits)
held-insert low key row (slot ∷ slots) ordered fits =
    let first = first_of low slot slots ordered in
    let rows = held slots in
    let up = ascends-held (slot.0 + 1) slots first.others in
    elim (cases_Bool (ltb key slot.0)) [
      | inl less ↦
          let below : key < slot.0 = ltb-true key slot.0 less in
          let all =
          ascends-row_before slot.0 slot.0 slot.1 rows (omega arith) first.fits up in
          rw less (sym (set_row-below key slot.0 row (row_before slot.1 rows) all below fits))
      | inr more ↦
          elim (cases_Bool (eqb key slot.0)) [
            | inl same ↦
                let e : key ≡ slot.0 = eqb-true key slot.0 same in
                rw (more, same)
                (sym (set_row-here key row slot.1 rows (rw e up) fits (rw e first.fits)))
            | inr other ↦
                let below : slot.0 < key =
                omega (arith, ltb-false key slot.0 more, eqb-false key slot.0 other) in
                rw (more, other)
                (ap (row_before slot.1) (held-insert (slot.0 + 1) key row slots first.others fits)
                ∙ sym (set_row-behind key slot.0 row slot.1 rows below fits first.fits))
          ]
    ]

-- ---- an empty slot

-- one that is made leaves the rows
pub held-make : (key : ℕ) (slots : List (ℕ × Option Row))
    → lookup (is_at (nat_cmp key)) slots ≡ None
    → held (insert_entry nat_cmp slots key None) ≡ held slots
held-make key [] none = refl
held-make key (slot ∷ slots) none =
    elim (cases_Bool (ltb key slot.0)) [
      | inl less ↦ rw less refl
      | inr more ↦
          elim (cases_Bool (eqb key slot.0)) [
            | inl same ↦ (let there = rw (more, same) at none in cc)
            | inr other ↦
                let rest = rw (more, other) at none in
                rw (more, other) (ap (row_before slot.1) (held-make key slots rest))
          ]
    ]

-- one that is dropped leaves the rows
pub held-drop : (test : ℕ → Bool) (slots : List (ℕ × Option Row))
    → lookup test slots ≡ Some None
    → held (remove_entry test slots) ≡ held slots
held-drop test [] found = refl
held-drop test (slot ∷ slots) found =
    elim (cases_Bool (test slot.0)) [
      | inl there ↦
          let e = rw there at found in
          let empty : slot.1 ≡ None = cc in
          rw (there, empty) refl
      | inr other ↦
          let rest = rw other at found in
          rw other (ap (row_before slot.1) (held-drop test slots rest))
    ]

-- ---- which slots there are

-- where there is a slot, an insert doesn't fail
pub inserted : {T E : Type 0} (result : Result T E) (key : ℕ) (row : Option Row)
    (old new : List (ℕ × Option Row))
    → OnOk result (new ≡ insert_entry nat_cmp old key row)
    → OnErr result (lookup (is_at (nat_cmp key)) old ≡ None)
    → has_slot old key ≡ true
    → new ≡ insert_entry nat_cmp old key row
inserted (Ok value) key row old new made absent there = made
inserted (Err error) key row old new made absent there =
    let none = rw absent at there in cc

-- no slot was found
pub not_there : {X : Type 0} (found : Option X) (there : Bool)
    → there ≡ is_some found
    → there ≡ false
    → found ≡ None
not_there None there is other = refl
not_there (Some value) there is other = let e : true ≡ false = sym is ∙ other in cc

-- ---- rows that move into the tree

ascends-behind : (low : ℕ) (front : List Row) (row : Row) (rows : List Row)
    → ascends row_key low (front ++ row ∷ rows) ≡ true
    → ascends row_key (row_key row + 1) rows ≡ true
ascends-behind low [] row rows up = (and_parts (leb low (row_key row)) _ up).1
ascends-behind low (first ∷ front) row rows up =
    let parts = and_parts (leb low (row_key first)) _ up in
    ascends-behind (row_key first + 1) front row rows parts.1

-- the last of them moved
pub moved : (given front : List Row) (row : Row) (key : ℕ) (rows now all : List Row)
    → given ≡ front ++ row ∷ []
    → given ++ rows ≡ all
    → ascends row_key 0 all ≡ true
    → key ≡ row_key row
    → now ≡ set_row key (Some row) rows
    → front ++ now ≡ all
moved given front row key rows now all last same up is set =
    let whole : front ++ row ∷ rows ≡ all =
    sym (append_assoc front (row ∷ []) rows) ∙ ap (λ xs. xs ++ rows) (sym last) ∙ same in
    let above = ascends-behind 0 front row rows (rw whole up) in
    let first = put-below row (row_key row + 1) rows above (omega arith) in
    let put_first : now ≡ row ∷ rows = set ∙ ap (λ k. set_row k (Some row) rows) is ∙ first in
    ap (λ xs. front ++ xs) put_first ∙ whole
