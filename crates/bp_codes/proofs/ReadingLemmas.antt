-- How an entry of an index answers what stands at the front of bits.
use Rattle.std.proofs.Common.{ℕ, zero, suc, ◌+◌, ◌^◌, ◌<◌, ◌≤◌, ◌≡◌, Bool, true, false, List, [], ◌∷◌, length, take, get_or, min, ◌*◌, add-one, ◌%◌, if◌then◌else◌, Option, Some, None, Result, Ok, Err, IsErr, drop, inl, inr, ◌/◌, length-drop, ◌-◌, refl, ap, sym, ◌∙◌, subst, arith, nat_le}
use Rattle.std.specs.List.{list_all, position_from}
use Rattle.std.proofs.Math.Nat.{pow-suc, pow-le-pow_right}
use Rattle.std.proofs.lemmas.Bool.{and_parts, leb-true, lt-ltb, le-ltb, cases_lt}
use Rattle.std.proofs.lemmas.List.{length-take-le, take_min}
use Rattle.std.proofs.lemmas.Nat.{one_shl}
use Rattle.bp_codes.specs.declared.code.NoCode.{NoCode}
use Rattle.bp_codes.specs.declared.code.NoCode.TheVariants.{Ends, Strange}
use Rattle.bp_codes.specs.Bits.{number_of_bits}
use Rattle.bp_codes.specs.declared.code.Found.{Found}
use Rattle.bp_codes.specs.Ahead.{FindsCode, IsAhead, found_code}
use Rattle.bp_codes.specs.Index.{entry_number, IsIndexOf}
use Rattle.bp_codes.specs.NextCode.{begins_code, row_at, no_code, next_row, row_or}
use Rattle.bp_codes.proofs.BitListLemmas.{number_of-below}
use Rattle.bp_codes.proofs.FrontLemmas.{next_row-take}
use Rattle.bp_codes.proofs.AheadLemmas.{window_ahead}

-- the entry at the place of the first bits, as many as are read, is what stands at the front of all
pub entry_is : (codes : List (List Bool)) (longest : ℕ) (index : List ℕ) (bits : List Bool) (count : ℕ) → IsIndexOf codes longest index → list_all (λ code. nat_le (length code) longest) codes ≡ true → count ≡ min longest (length bits) → get_or index (2 ^ count + number_of_bits (take count bits)) 0 ≡ entry_number codes (next_row codes bits)
entry_is codes longest index bits count kept short is =
    let read : length (take count bits) ≡ count = length-take-le count bits (omega arith) in
    let same : take count bits ≡ take longest bits = ap (λ n. take n bits) is ∙ take_min longest bits in
    ap (λ n. get_or index (2 ^ n + number_of_bits (take count bits)) 0) (sym read)
    ∙ kept (take count bits) (omega arith)
    ∙ ap (λ xs. entry_number codes (next_row codes xs)) same ∙ ap (entry_number codes) (next_row-take codes longest bits short)

-- that place lies in the index
pub place_below : (longest count : ℕ) (bits : List Bool) → count ≤ longest → count ≤ length bits → 2 ^ count + number_of_bits (take count bits) < 2 ^ (longest + 1)
place_below longest count bits h within =
    let read : 2 ^ length (take count bits) ≡ 2 ^ count = ap (λ n. 2 ^ n) (length-take-le count bits within) in
    let grows : 2 ^ (count + 1) ≤ 2 ^ (longest + 1) = pow-le-pow_right {n = 2} (omega arith) {i = count + 1} {j = longest + 1} (omega arith) in
    let double : 2 ^ (count + 1) ≡ 2 ^ count * 2 = ap (λ m. 2 ^ m) (add-one count) ∙ pow-suc 2 count in
    omega (arith, number_of-below (take count bits), read, grows, double)

pub place_small : (longest place : ℕ) → longest ≤ 13 → place < 2 ^ (longest + 1) → place < 16384
place_small longest place h below =
    let grows : 2 ^ (longest + 1) ≤ 2 ^ 14 = pow-le-pow_right {n = 2} (omega arith) {i = longest + 1} {j = 14} (omega arith) in
    omega (arith, grows)

-- ---- what an entry says

abbrev pub RowsBelow : ℕ → Result ℕ NoCode → Type 0
RowsBelow n (Ok row) = row < n
RowsBelow n (Err none) = Unit {0}

abbrev SomeBelow : ℕ → Option ℕ → Type 0
SomeBelow n (Some row) = row < n
SomeBelow n None = Unit {0}

position_from-below : (p : List Bool → Bool) (k : ℕ) (codes : List (List Bool)) (n : ℕ) → k + length codes ≤ n → SomeBelow n (position_from p k codes)
position_from-below p k [] n h = tt
position_from-below p k (code ∷ codes) n h =
    elim (p code) as (λ v. SomeBelow n (if v then Some k else position_from p (k + 1) codes)) [
      | true ↦ omega arith
      | false ↦ position_from-below p (k + 1) codes n (omega arith)
    ]

row_or-below : (n : ℕ) (row : Option ℕ) (none : NoCode) → SomeBelow n row → RowsBelow n (row_or row none)
row_or-below n (Some row) none h = h
row_or-below n None none h = tt

pub next_row-below : (codes : List (List Bool)) (bits : List Bool) → RowsBelow (length codes) (next_row codes bits)
next_row-below codes bits =
    row_or-below (length codes) (row_at codes bits) (no_code codes bits) (position_from-below (λ code. begins_code code bits) 0 codes (length codes) (omega arith))

pub says_ends : (codes : List (List Bool)) (front : Result ℕ NoCode) → length codes ≤ 254 → RowsBelow (length codes) front → entry_number codes front ≡ 255 → Err Ends ≡ front
says_ends codes (Ok row) few below h = absurd (omega arith)
says_ends codes (Err Ends) few below h = refl
says_ends codes (Err Strange) few below h = absurd (omega arith)

pub says_strange : (codes : List (List Bool)) (front : Result ℕ NoCode) → length codes ≤ 254 → RowsBelow (length codes) front → entry_number codes front ≡ 254 → Err Strange ≡ front
says_strange codes (Ok row) few below h = absurd (omega arith)
says_strange codes (Err Ends) few below h = absurd (omega arith)
says_strange codes (Err Strange) few below h = refl

pub says_row : (codes : List (List Bool)) (entry row : ℕ) (front : Result ℕ NoCode) → length codes ≤ 254 → RowsBelow (length codes) front → (entry ≡ 255 → ⊥) → (entry ≡ 254 → ⊥) → entry ≡ entry_number codes front → row ≡ entry % 256 → Ok row ≡ front
says_row codes entry row (Ok r) few below a b h is = let same : row ≡ r = omega arith in ap Ok same
says_row codes entry row (Err Ends) few below a b h is = absurd (a h)
says_row codes entry row (Err Strange) few below a b h is = absurd (b h)

-- no code is empty
filled_at : (codes : List (List Bool)) (row : ℕ) → list_all (λ code. nat_le 1 (length code)) codes ≡ true → row < length codes → 1 ≤ length (get_or codes row [])
filled_at [] row h below = absurd (omega arith)
filled_at (code ∷ codes) zero h below = leb-true 1 (length code) (and_parts (nat_le 1 (length code)) (list_all (λ code. nat_le 1 (length code)) codes) h).0
filled_at (code ∷ codes) (suc row) h below = filled_at codes row (and_parts (nat_le 1 (length code)) (list_all (λ code. nat_le 1 (length code)) codes) h).1 (omega arith)

pub none_found : (codes : List (List Bool)) (entry : ℕ) (front : Result ℕ NoCode) → list_all (λ code. nat_le 1 (length code)) codes ≡ true → RowsBelow (length codes) front → entry ≡ entry_number codes front → entry < 256 → IsErr front
none_found codes entry (Ok row) full below is small = absurd (omega (arith, filled_at codes row full below))
none_found codes entry (Err none) full below is small = refl

pub row_found : (codes : List (List Bool)) (entry : ℕ) (front : Result ℕ NoCode) → length codes ≤ 254 → RowsBelow (length codes) front → entry ≡ entry_number codes front → 256 ≤ entry → (front ≡ Ok (entry % 256)) × (entry / 256 ≡ length (get_or codes (entry % 256) []))
row_found codes entry (Ok row) few below is big =
    let same : row ≡ entry % 256 = omega arith in
    let len : entry / 256 ≡ length (get_or codes row []) = omega arith in
    (ap Ok same, len ∙ ap (λ r. length (get_or codes r [])) same)
row_found codes entry (Err Ends) few below is big = absurd (omega arith)
row_found codes entry (Err Strange) few below is big = absurd (omega arith)

pub row_below : (n row : ℕ) (front : Result ℕ NoCode) → Ok row ≡ front → RowsBelow n front → row < n
row_below n row front is below = let P : Result ℕ NoCode → Type 0 = λ r. RowsBelow n r in subst P (sym is) below

-- ---- the code's place

pub place_is : (bits : List Bool) (count window : ℕ) → count ≤ 13 → window ≡ number_of_bits (take count bits) → 1 * 2 ^ count % 4294967296 + window ≡ 2 ^ count + number_of_bits (take count bits)
place_is bits count window h is = omega (arith, is, one_shl count 32 (omega arith))

pub answered : (codes : List (List Bool)) (longest : ℕ) (index : List ℕ) (bits : List Bool) (count window entry : ℕ) → IsIndexOf codes longest index → list_all (λ code. nat_le (length code) longest) codes ≡ true → longest ≤ 13 → count ≡ min longest (length bits) → window ≡ number_of_bits (take count bits) → entry ≡ get_or index (1 * 2 ^ count % 4294967296 + window) 0 → entry ≡ entry_number codes (next_row codes bits)
answered codes longest index bits count window entry kept short within is_count is_window is_entry =
    is_entry ∙ ap (λ n. get_or index n 0) (place_is bits count window (omega arith) is_window)
    ∙ entry_is codes longest index bits count kept short is_count

-- ---- in a look-ahead

-- what an entry says is so of the bits
says_found : (codes : List (List Bool)) (entry : ℕ) (bits : List Bool) → list_all (λ code. nat_le 1 (length code)) codes ≡ true → length codes ≤ 254 → entry ≡ entry_number codes (next_row codes bits) → FindsCode codes bits (found_code entry)
says_found codes entry bits full few is =
    elim (cases_lt entry 256) [
      | inl small ↦ rw (lt-ltb entry 256 small) (none_found codes entry (next_row codes bits) full (next_row-below codes bits) is small)
      | inr big ↦ rw (le-ltb entry 256 big) (row_found codes entry (next_row codes bits) few (next_row-below codes bits) is big)
    ]

-- the entry at the place of bits behind the first ones
pub finds_ahead : (codes : List (List Bool)) (longest : ℕ) (index : List ℕ) (bits : List Bool) (word skipped entry : ℕ) (found : Option Found) → IsIndexOf codes longest index → list_all (λ code. nat_le (length code) longest) codes ≡ true → list_all (λ code. nat_le 1 (length code)) codes ≡ true → length codes ≤ 254 → longest ≤ 13 → skipped ≤ 44 → IsAhead word bits → entry ≡ get_or index (2 ^ longest + word * 2 ^ skipped % 2 ^ 64 / 2 ^ (64 - longest)) 0 → found ≡ found_code entry → FindsCode codes (drop skipped bits) found
finds_ahead codes longest index bits word skipped entry found kept short full few within less a is says =
    let window = window_ahead word skipped longest bits a (omega arith) in
    let there : longest ≡ min longest (length (drop skipped bits)) = omega (arith, length-drop skipped bits, a.long) in
    let answer : entry ≡ entry_number codes (next_row codes (drop skipped bits)) =
    is ∙ ap (λ n. get_or index (2 ^ longest + n) 0) window ∙ entry_is codes longest index (drop skipped bits) longest kept short there in
    let P : Option Found → Type 0 = λ f. FindsCode codes (drop skipped bits) f in
    subst P (sym says) (says_found codes entry (drop skipped bits) full few answer)
