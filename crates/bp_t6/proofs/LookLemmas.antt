-- Lemmas on codes looked up: carry the row that was found over to the bits of runs.
use Rattle.std.proofs.Common.{nat_lt, if◌then◌else◌, replicate, ◌⊎◌, ℕ, suc, ◌+◌, ◌-◌, ◌*◌, ◌/◌, ◌%◌, ◌<◌, ◌≤◌, ◌≡◌, Bool, true, false, List, [], ◌∷◌, ◌++◌, length, get_or, drop, sum, Option, Some, None, IfSome, Ok, Err, refl, ap, sym, ◌∙◌, subst, arith, inl, inr, append_assoc}
use Rattle.std.specs.List.{position_from, flat_map}
use Rattle.std.proofs.lemmas.Bool.{cases_lt, cases_Bool, cond-true, cond-false, and_parts, lt-ltb, le-ltb}
use Rattle.std.proofs.lemmas.List.{append-nil, length-append, drop-drop, replicate-append-replicate}
use Rattle.std.proofs.lemmas.List.Sums.{sum_by-append, sum_by-cons}
use Rattle.bp_codes.specs.declared.code.NoCode.{NoCode}
use Rattle.bp_codes.specs.CodeLists.{mode_codes}
use Rattle.bp_codes.specs.NextCode.{begins_code, same_bit, row_at, row_or, no_code, next_row}
use Rattle.bp_t6.specs.Modes.{Run, pixels_of_run, AreMakeUps, HasCodes, code, run_codes, run_bits_in}
use Rattle.bp_t6.specs.Written.{written_run}
use Rattle.bp_core.specs.declared.rules.RuleKind.TheVariants.{T6BadPlace}
use Rattle.bp_t6.specs.Faults.{RunFault, missing_code, row_pixels}
use Rattle.bp_t6.proofs.RunCodeLemmas.{flat_map-append, make_up}

same_when : (x y : Bool) → same_bit x y ≡ true → y ≡ x
same_when true true e = refl
same_when false false e = refl
same_when true false e = cc
same_when false true e = cc

begins_split : (c bits : List Bool) → begins_code c bits ≡ true → bits ≡ c ++ drop (length c) bits
begins_split [] bits e = refl
begins_split (x ∷ c) [] e = cc
begins_split (x ∷ c) (y ∷ bits) e =
    let both = and_parts (same_bit x y) (begins_code c bits) e in
    ap (λ b. b ∷ bits) (same_when x y both.0) ∙ ap (λ bs. x ∷ bs) (begins_split c bits both.1)

abbrev Found : (List Bool → Bool) → ℕ → List (List Bool) → ℕ → Type 0
Found p k codes r = (j : ℕ) × (r ≡ k + j) × (j < length codes) × (p (get_or codes j []) ≡ true)

some_same : (k r : ℕ) → ◌≡◌ {A = Option ℕ} (Some k) (Some r) → r ≡ k
some_same k r e = cc

found_from : (p : List Bool → Bool) (k : ℕ) (codes : List (List Bool)) (r : ℕ) → position_from p k codes ≡ Some r → Found p k codes r
found_from p k [] r e = cc
found_from p k (c ∷ codes) r e = elim (cases_Bool (p c)) [
  | inl here ↦
      let same : r ≡ k = some_same k r (sym (cond-true (p c) (Some k) (position_from p (k + 1) codes) here) ∙ e) in
      (0, omega arith, omega arith, here)
  | inr not_here ↦
      let rest = found_from p (k + 1) codes r (sym (cond-false (p c) (Some k) (position_from p (k + 1) codes) not_here) ∙ e) in
      (suc rest.0, omega (arith, rest.1), omega (arith, rest.2), rest.3)
]

from_row_or : (o : Option ℕ) (why : NoCode) (row : ℕ) → row_or o why ≡ Ok row → o ≡ Some row
from_row_or None why row e = cc
from_row_or (Some r) why row e = let same : r ≡ row = cc in ap Some same

-- the bits begin with the code of the row
pub row_found : (codes : List (List Bool)) (bits : List Bool) (row : ℕ) → next_row codes bits ≡ Ok row → bits ≡ code codes row ++ drop (length (code codes row)) bits
row_found codes bits row e =
    let found = found_from (λ c. begins_code c bits) 0 codes row (from_row_or (row_at codes bits) (no_code codes bits) row e) in
    let same : found.0 ≡ row = omega (arith, found.1) in
    begins_split (code codes row) bits (ap (λ j. begins_code (get_or codes j []) bits) (sym same) ∙ found.3)

-- the row is one of the table's
pub row_in_table : (codes : List (List Bool)) (bits : List Bool) (row : ℕ) → next_row codes bits ≡ Ok row → row < length codes
row_in_table codes bits row e =
    let found = found_from (λ c. begins_code c bits) 0 codes row (from_row_or (row_at codes bits) (no_code codes bits) row e) in
    omega (arith, found.1, found.2)

-- ---- the make-up codes of a run so far

-- from one place of the bits to another stand make-up codes of so many pixels, which may be the coder's
pub record MakeUps (codes : List (List Bool)) (bits : List Bool) (start at pixels : ℕ) (canonical : Bool) : Type 0 where
  pub ns : List ℕ
  pub are : AreMakeUps ns
  pub total : 64 * sum ns ≡ pixels
  pub reads : drop start bits ≡ flat_map (make_up codes) ns ++ drop at bits
  pub long : at ≡ start + length (flat_map (make_up codes) ns)
  pub chosen : canonical ≡ true → ns ≡ (written_run pixels).make_ups

pub none_yet : (codes : List (List Bool)) (bits : List Bool) (start : ℕ) → MakeUps codes bits start start 0 true
none_yet codes bits start = record { ns = []; are = tt; total = refl; reads = refl; long = omega arith; chosen = λ e. refl }

are_more : (ns : List ℕ) (n : ℕ) → AreMakeUps ns → 1 ≤ n → n ≤ 40 → AreMakeUps (ns ++ n ∷ [])
are_more [] n h low high = ((low, high), tt)
are_more (m ∷ ns) n h low high = (h.0, are_more ns n h.1 low high)

-- behind longest make-up codes alone one of any length is the coder's
run_more : (pixels n : ℕ) → pixels % 2560 ≡ 0 → 1 ≤ n → n ≤ 40 → (written_run (pixels + 64 * n)).make_ups ≡ (written_run pixels).make_ups ++ n ∷ []
run_more pixels n whole low high = elim (cases_lt n 40) [
  | inl less ↦
      let count : (pixels + 64 * n) / 2560 ≡ k = omega (arith, whole) in
      let many : 64 ≤ (pixels + 64 * n) % 2560 = omega (arith, whole) in
      let own : (pixels + 64 * n) % 2560 / 64 ≡ n = omega (arith, whole) in
      ap (λ j. replicate j 40 ++ last_make_up (pixels + 64 * n)) count
      ∙ ap (λ ns. replicate k 40 ++ ns) (cond-false (nat_lt ((pixels + 64 * n) % 2560) 64) [] ((pixels + 64 * n) % 2560 / 64 ∷ []) (le-ltb ((pixels + 64 * n) % 2560) 64 many) ∙ ap (λ m. m ∷ []) own)
      ∙ ap (λ ns. ns ++ n ∷ []) (sym front)
  | inr most ↦
      let top : n ≡ 40 = omega arith in
      let count : (pixels + 64 * n) / 2560 ≡ k + 1 = omega (arith, whole) in
      let few : (pixels + 64 * n) % 2560 < 64 = omega (arith, whole) in
      ap (λ j. replicate j 40 ++ last_make_up (pixels + 64 * n)) count
      ∙ ap (λ ns. replicate (k + 1) 40 ++ ns) (cond-true (nat_lt ((pixels + 64 * n) % 2560) 64) [] ((pixels + 64 * n) % 2560 / 64 ∷ []) (lt-ltb ((pixels + 64 * n) % 2560) 64 few))
      ∙ append-nil (replicate (k + 1) 40) ∙ sym (replicate-append-replicate k 1 40)
      ∙ ap (λ m. replicate k 40 ++ m ∷ []) (sym top)
      ∙ ap (λ ns. ns ++ n ∷ []) (sym front)
]
  where
    k : ℕ
    k = pixels / 2560

    last_make_up : ℕ → List ℕ
    last_make_up m = if nat_lt (m % 2560) 64 then [] else m % 2560 / 64 ∷ []

    few_left : pixels % 2560 < 64
    few_left = omega (arith, whole)

    front : (written_run pixels).make_ups ≡ replicate k 40
    front = ap (λ ns. replicate k 40 ++ ns) (cond-true (nat_lt (pixels % 2560) 64) [] (pixels % 2560 / 64 ∷ []) (lt-ltb (pixels % 2560) 64 few_left)) ∙ append-nil (replicate k 40)

-- a terminating code ends the coder's run
run_ended : (pixels rest : ℕ) (ns : List ℕ) → rest < 64 → pixels % 64 ≡ 0 → ns ≡ (written_run pixels).make_ups → ◌≡◌ {A = Run} (record { make_ups = ns; rest = rest }) (written_run (pixels + rest))
run_ended pixels rest ns few whole is =
    let all = pixels + rest in
    let count : pixels / 2560 ≡ all / 2560 = omega (arith, whole) in
    let own : rest ≡ all % 64 = omega (arith, whole) in
    ap (λ ms. run ms rest) (is ∙ ap (λ j. replicate j 40 ++ last_make_up pixels) count ∙ ap (λ ms. replicate (all / 2560) 40 ++ ms) (same_last (cases_lt (pixels % 2560) 64)))
    ∙ ap (run (written_run all).make_ups) own
  where
    run : List ℕ → ℕ → Run
    run ms r = record { make_ups = ms; rest = r }

    last_make_up : ℕ → List ℕ
    last_make_up m = if nat_lt (m % 2560) 64 then [] else m % 2560 / 64 ∷ []

    same_last : (pixels % 2560 < 64) ⊎ (64 ≤ pixels % 2560) → last_make_up pixels ≡ last_make_up (pixels + rest)
    same_last (inl less) =
        let there : (pixels + rest) % 2560 < 64 = omega (arith, whole) in
        cond-true (nat_lt (pixels % 2560) 64) [] (pixels % 2560 / 64 ∷ []) (lt-ltb (pixels % 2560) 64 less)
        ∙ sym (cond-true (nat_lt ((pixels + rest) % 2560) 64) [] ((pixels + rest) % 2560 / 64 ∷ []) (lt-ltb ((pixels + rest) % 2560) 64 there))
    same_last (inr more) =
        let there : 64 ≤ (pixels + rest) % 2560 = omega (arith, whole) in
        let same : pixels % 2560 / 64 ≡ (pixels + rest) % 2560 / 64 = omega (arith, whole) in
        cond-false (nat_lt (pixels % 2560) 64) [] (pixels % 2560 / 64 ∷ []) (le-ltb (pixels % 2560) 64 more)
        ∙ ap (λ m. m ∷ []) same
        ∙ sym (cond-false (nat_lt ((pixels + rest) % 2560) 64) [] ((pixels + rest) % 2560 / 64 ∷ []) (le-ltb ((pixels + rest) % 2560) 64 there))

-- one more
pub make_up_more : (codes : List (List Bool)) (bits : List Bool) (start at pixels row len : ℕ) (old new : Bool) → MakeUps codes bits start at pixels old → next_row codes (drop at bits) ≡ Ok row → len ≡ length (code codes row) → 64 ≤ row → row < 104
    → (new ≡ true → (old ≡ true) × (pixels % 2560 ≡ 0)) → MakeUps codes bits start (at + len) (pixels + 64 * (row - 63)) new
make_up_more codes bits start at pixels row len old new so is long low high fine =
    let n = row - 63 in
    let back : 63 + n ≡ row = omega arith in
    let found = row_found codes (drop at bits) row is in
    let rest : drop at bits ≡ code codes row ++ drop (at + len) bits = found ∙ ap (λ bs. code codes row ++ bs) (ap (λ m. drop m (drop at bits)) (sym long) ∙ drop-drop len at bits) in
    let piece : flat_map (make_up codes) (so.ns ++ n ∷ []) ≡ flat_map (make_up codes) so.ns ++ code codes row =
    flat_map-append (make_up codes) so.ns (n ∷ []) ∙ ap (λ bs. flat_map (make_up codes) so.ns ++ bs) (append-nil (make_up codes n) ∙ ap (code codes) back) in
    record {
      ns = so.ns ++ n ∷ [];
      are = are_more so.ns n so.are (omega arith) (omega arith);
      total = (let s = sum_by-append (λ (x : ℕ). x) so.ns (n ∷ []) in let one = sum_by-cons (λ (x : ℕ). x) n [] in omega (arith, so.total));
      reads = so.reads ∙ ap (λ bs. flat_map (make_up codes) so.ns ++ bs) rest ∙ sym (append_assoc (flat_map (make_up codes) so.ns) (code codes row) (drop (at + len) bits))
          ∙ ap (λ bs. bs ++ drop (at + len) bits) (sym piece);
      long = omega (arith, so.long, long, ap length piece, length-append (flat_map (make_up codes) so.ns) (code codes row));
      chosen = λ e. (let f = fine e in ap (λ ns. ns ++ n ∷ []) (so.chosen f.0) ∙ sym (run_more pixels n f.1 (omega arith) (omega arith)));
    }

-- the bits begin with the codes of a run, from one of the tables
pub record RunEnds (table : List (List Bool)) (bits : List Bool) (n : ℕ) (canonical : Bool) (rest : List Bool) : Type 0 where
  pub run : Run
  pub has : HasCodes run
  pub size : pixels_of_run run ≡ n
  pub chosen : canonical ≡ true → run ≡ written_run n
  pub codes : bits ≡ run_bits_in table run ++ rest

-- a terminating code
pub run_end : {canonical : Bool} → (codes : List (List Bool)) (bits : List Bool) (start at pixels row len : ℕ) → MakeUps codes bits start at pixels canonical → next_row codes (drop at bits) ≡ Ok row → len ≡ length (code codes row) → row < 64 → RunEnds codes (drop start bits) (pixels + row) canonical (drop (at + len) bits)
run_end codes bits start at pixels row len so is long low =
    let found = row_found codes (drop at bits) row is in
    let rest : drop at bits ≡ code codes row ++ drop (at + len) bits = found ∙ ap (λ bs. code codes row ++ bs) (ap (λ m. drop m (drop at bits)) (sym long) ∙ drop-drop len at bits) in
    record {
      run = record { make_ups = so.ns; rest = row };
      has = record { make_ups = so.are; rest = low };
      size = omega (arith, so.total);
      chosen = λ e. run_ended pixels row so.ns low (omega (arith, so.total)) (so.chosen e);
      codes = so.reads ∙ ap (λ bs. flat_map (make_up codes) so.ns ++ bs) rest ∙ sym (append_assoc (flat_map (make_up codes) so.ns) (code codes row) (drop (at + len) bits));
    }

pub row_length : (codes : List (List Bool)) (bits : List Bool) (row : ℕ) → next_row codes bits ≡ Ok row → length (code codes row) ≤ length bits
row_length codes bits row e = omega (arith, ap length (row_found codes bits row e), length-append (code codes row) (drop (length (code codes row)) bits))

-- ---- where no run is read

pub run_missing : {canonical : Bool} → (black : Bool) (room : ℕ) (bits : List Bool) (start at pixels : ℕ) (why : NoCode) → MakeUps (run_codes black) bits start at pixels canonical → pixels ≤ room → next_row (run_codes black) (drop at bits) ≡ Err why → RunFault black room (drop start bits) (missing_code why) (at - start)
run_missing black room bits start at pixels why so fits e =
    let size : length (flat_map (make_up (run_codes black)) so.ns) ≡ at - start = omega (arith, so.long) in
    subst (λ (bs : List Bool). RunFault black room bs (missing_code why) (at - start)) (sym so.reads)
    (subst (λ (n : ℕ). RunFault black room (flat_map (make_up (run_codes black)) so.ns ++ drop at bits) (missing_code why) n) size
    (RunFault.missing so.ns (drop at bits) why so.are (omega (arith, so.total)) e))

pub run_passes : {canonical : Bool} → (black : Bool) (room : ℕ) (bits : List Bool) (start at pixels row : ℕ) → MakeUps (run_codes black) bits start at pixels canonical → pixels ≤ room → next_row (run_codes black) (drop at bits) ≡ Ok row → room < pixels + row_pixels row → RunFault black room (drop start bits) T6BadPlace (at - start)
run_passes black room bits start at pixels row so fits e past =
    let size : length (flat_map (make_up (run_codes black)) so.ns) ≡ at - start = omega (arith, so.long) in
    subst (λ (bs : List Bool). RunFault black room bs T6BadPlace (at - start)) (sym so.reads)
    (subst (λ (n : ℕ). RunFault black room (flat_map (make_up (run_codes black)) so.ns ++ drop at bits) T6BadPlace n) size
    (RunFault.passes so.ns (drop at bits) row so.are (omega (arith, so.total)) e (omega (arith, so.total))))

pub few_pixels : (row : ℕ) → row < 64 → row_pixels row ≡ row
few_pixels row h = cond-true (nat_lt row 64) row (64 * (row - 63)) (lt-ltb row 64 h)

pub many_pixels : (row : ℕ) → 64 ≤ row → row_pixels row ≡ 64 * (row - 63)
many_pixels row h = cond-false (nat_lt row 64) row (64 * (row - 63)) (le-ltb row 64 h)

-- ---- what is said of a look-ahead

pub at_hand : (o : Option ℕ) (word : ℕ) (P : ℕ → Type 0) → o ≡ Some word → IfSome o P → P word
at_hand (Some w) word P is said = let same : w ≡ word = cc in subst P same said
at_hand None word P is said = cc

-- behind the bits that are skipped stands what stands at the place that they lead to
pub led_to : (bits : List Bool) (from start : ℕ) → from ≤ start → drop (start - from) (drop from bits) ≡ drop start bits
led_to bits from start h = drop-drop (start - from) from bits ∙ ap (λ n. drop n bits) (omega arith)

pub nine_modes : length mode_codes ≡ 9
unfolding mode_codes
nine_modes = refl
