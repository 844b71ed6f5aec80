-- Lemmas on modes near b1 out of a word: carry its first bits over to the mode that they begin.
use Rattle.std.proofs.Common.{ℕ, zero, suc, ◌+◌, ◌-◌, ◌*◌, ◌/◌, ◌%◌, ◌^◌, ◌<◌, ◌≤◌, ◌≡◌, Bool, true, false, ◌&&◌, ◌||◌, ◌==◌, nat_lt, nat_le, List, [], ◌∷◌, ◌++◌, length, take, drop, get_or, replicate, Ok, refl, ap, sym, ◌∙◌, subst, arith, length-append, length-drop, add-zero}
use Rattle.std.proofs.lemmas.Bool.{and_parts, leb-true, eqb-true, le-ltb}
use Rattle.std.proofs.lemmas.List.{take-take, take-append-le, drop-take, length-replicate, length-take-le}
use Rattle.bp_codes.specs.declared.mode_index.TheConstants.{MODE_INDEX}
use Rattle.bp_codes.specs.Ahead.{IsAhead}
use Rattle.bp_codes.specs.Bits.{number_of_bits}
use Rattle.bp_codes.specs.CodeLists.{mode_codes}
use Rattle.bp_codes.specs.NextCode.{next_row}
use Rattle.bp_codes.specs.Index.{entry_number}
use Rattle.bp_codes.proofs.BitListLemmas.{number_of-append, number_of-take, number_of-drop, number_of-below, shifted_out, in_the_rest}
use Rattle.bp_codes.proofs.KeptLemmas.{modes_kept}
use Rattle.bp_codes.proofs.ReadingLemmas.{entry_is, row_found, next_row-below}
use Rattle.bp_t6.specs.declared.near_index.TheConstants.{NEAR_INDEX}
use Rattle.bp_t6.specs.declared.near_reader.Near.{Near}
use Rattle.bp_t6.specs.Modes.{code, vertical_rows}
use Rattle.bp_t6.specs.Near.{Holds, BeginsNear}

-- ---- the bits that a word holds

pub held_of : (word : ℕ) (bits : List Bool) → IsAhead word bits → Holds word 57 bits
held_of word bits a = record { digits = a.digits; whole = a.count; number = a.number; short = omega arith; long = a.long; same = a.same }

pub held_less : (word n m : ℕ) (bits : List Bool) → m ≤ n → Holds word n bits → Holds word m bits
held_less word n m bits less h = record {
  digits = h.digits;
  whole = h.whole;
  number = h.number;
  short = omega (arith, h.short);
  long = omega (arith, h.long);
  same = sym (take-take m n h.digits less) ∙ ap (take m) h.same ∙ take-take m n bits less;
}

number-zeros : (n : ℕ) → number_of_bits (replicate n false) ≡ 0
number-zeros zero = refl
number-zeros (suc n) = omega (arith, number-zeros n)

-- after a shift it holds the bits behind those that went
pub held_on : (word n k : ℕ) (bits : List Bool) → k ≤ n → Holds word n bits → Holds (word * 2 ^ k % 2 ^ 64) (n - k) (drop k bits)
held_on word n k bits less h =
    let digits = h.digits in
    let rest = drop k digits in
    let left : length rest ≡ 64 - k = omega (arith, length-drop k digits, h.whole) in
    let all : 64 - k + k ≡ 64 = omega (arith, h.short) in
    let size : length digits ≡ k + (64 - k) = omega (arith, h.whole, h.short) in
    let more : k + (n - k) ≡ n = omega arith in
    let front : drop k (take n digits) ≡ take (n - k) rest = ap (λ m. drop k (take m digits)) (sym more) ∙ drop-take k (n - k) digits in
    let back : drop k (take n bits) ≡ take (n - k) (drop k bits) = ap (λ m. drop k (take m bits)) (sym more) ∙ drop-take k (n - k) bits in
    record {
      digits = rest ++ replicate k false;
      whole = length-append rest (replicate k false) ∙ omega (arith, left, length-replicate {A = Bool} k false, h.short);
      number =
          number_of-append rest (replicate k false)
          ∙ ap (λ v. number_of_bits rest * 2 ^ length (replicate {A = Bool} k false) + v) (number-zeros k) ∙ add-zero (number_of_bits rest * 2 ^ length (replicate {A = Bool} k false))
          ∙ ap (λ m. number_of_bits rest * 2 ^ m) (length-replicate {A = Bool} k false)
          ∙ ap (λ v. v * 2 ^ k) (number_of-drop k (64 - k) digits size)
          ∙ sym (shifted_out (number_of_bits digits) k (64 - k))
          ∙ ap (λ m. number_of_bits digits * 2 ^ k % 2 ^ m) all
          ∙ ap (λ v. v * 2 ^ k % 2 ^ 64) h.number;
      short = omega (arith, h.short);
      long = omega (arith, h.long, length-drop k bits);
      same = take-append-le (n - k) rest (replicate k false) (omega (arith, left, h.short)) ∙ sym front ∙ ap (drop k) h.same ∙ back;
    }

-- the first seven as a number
pub first_seven : (word n : ℕ) (bits : List Bool) → 7 ≤ n → Holds word n bits → word / 2 ^ 57 ≡ number_of_bits (take 7 bits)
first_seven word n bits more h =
    ap (λ v. v / 2 ^ 57) (sym h.number) ∙ sym (number_of-take 7 57 h.digits h.whole) ∙ ap number_of_bits (sym (take-take 7 n h.digits more) ∙ ap (take 7) h.same ∙ take-take 7 n bits more)

-- ---- the index

-- an entry is none, or that of a mode near b1 as the index of all modes has it
abbrev agrees : ℕ → ℕ → Bool
agrees near entry =
    nat_lt near 256 || (nat_le (near % 256) 7 && (nat_le (near / 256) 7 && entry == get_or vertical_rows (near % 256) 0 + 256 * (near / 256)))

abbrev all_agree : List ℕ → List ℕ → Bool
all_agree [] entries = true
all_agree (near ∷ nears) [] = false
all_agree (near ∷ nears) (entry ∷ entries) = agrees near entry && all_agree nears entries

agrees_at : (nears entries : List ℕ) (i : ℕ) → all_agree nears entries ≡ true → i < length nears → agrees (get_or nears i 0) (get_or entries i 0) ≡ true
agrees_at [] entries i all within = absurd (omega arith)
agrees_at (near ∷ nears) [] i all within = cc
agrees_at (near ∷ nears) (entry ∷ entries) zero all within = (and_parts (agrees near entry) (all_agree nears entries) all).0
agrees_at (near ∷ nears) (entry ∷ entries) (suc i) all within = agrees_at nears entries i (and_parts (agrees near entry) (all_agree nears entries) all).1 (omega arith)

index_agrees : all_agree NEAR_INDEX (drop 128 MODE_INDEX) ≡ true
index_agrees = refl

record Agrees (near entry : ℕ) : Type 0 where
  small : near % 256 ≤ 7
  short : near / 256 ≤ 7
  same : entry ≡ get_or vertical_rows (near % 256) 0 + 256 * (near / 256)

or_second : (a b : Bool) → (a || b) ≡ true → a ≡ false → b ≡ true
or_second true b e f = cc
or_second false b e f = e

agreed : (near entry : ℕ) → agrees near entry ≡ true → 256 ≤ near → Agrees near entry
agreed near entry e big =
    let row = get_or vertical_rows (near % 256) 0 + 256 * (near / 256) in
    let second = or_second (nat_lt near 256) (nat_le (near % 256) 7 && (nat_le (near / 256) 7 && entry == row)) e (le-ltb near 256 big) in
    let parts = and_parts (nat_le (near % 256) 7) (nat_le (near / 256) 7 && entry == row) second in
    let more = and_parts (nat_le (near / 256) 7) (entry == row) parts.1 in
    record {
      small = leb-true (near % 256) 7 parts.0;
      short = leb-true (near / 256) 7 more.0;
      same = eqb-true entry row more.1;
    }

row_small : (k : ℕ) → get_or vertical_rows k 0 ≤ 8
row_small zero = omega arith
row_small (suc zero) = omega arith
row_small (suc (suc zero)) = omega arith
row_small (suc (suc (suc zero))) = omega arith
row_small (suc (suc (suc (suc zero)))) = omega arith
row_small (suc (suc (suc (suc (suc zero))))) = omega arith
row_small (suc (suc (suc (suc (suc (suc zero)))))) = omega arith
row_small (suc (suc (suc (suc (suc (suc (suc k))))))) = omega arith

modes_at : (bits : List Bool) → 7 ≤ length bits → get_or MODE_INDEX (128 + number_of_bits (take 7 bits)) 0 ≡ entry_number mode_codes (next_row mode_codes bits)
unfolding mode_codes
modes_at bits long = entry_is mode_codes 7 MODE_INDEX bits 7 modes_kept refl (omega arith)

few_modes : length mode_codes ≤ 254
unfolding mode_codes
few_modes = omega arith

-- an entry at the first seven bits that a word holds says which mode begins them
pub begins_near : (word n entry : ℕ) (bits : List Bool) (near : Near) → Holds word n bits → 7 ≤ n → entry ≡ get_or NEAR_INDEX (word / 2 ^ 57) 0 → 256 ≤ entry → near.shift ≡ entry % 256 → near.len ≡ entry / 256 → BeginsNear bits near
begins_near word n entry bits near h more is big shift len =
    let i = number_of_bits (take 7 bits) in
    let seven : length (take 7 bits) ≡ 7 = length-take-le 7 bits (omega (arith, h.long)) in
    let below : i < 128 = (let P : ℕ → Type 0 = λ m. i < 2 ^ m in subst P seven (number_of-below (take 7 bits))) in
    let here : entry ≡ get_or NEAR_INDEX i 0 = is ∙ ap (λ k. get_or NEAR_INDEX k 0) (first_seven word n bits more h) in
    let m = get_or MODE_INDEX (128 + i) 0 in
    let rest : get_or (drop 128 MODE_INDEX) i 0 ≡ m = in_the_rest MODE_INDEX 128 i in
    let both : agrees entry m ≡ true = ap (λ k. agrees k m) here ∙ ap (agrees (get_or NEAR_INDEX i 0)) (sym rest) ∙ agrees_at NEAR_INDEX (drop 128 MODE_INDEX) i index_agrees (omega (arith, below)) in
    let a = agreed entry m both big in
    let row = get_or vertical_rows (entry % 256) 0 in
    let low : m % 256 ≡ row = omega (arith, a.same, row_small (entry % 256)) in
    let high : m / 256 ≡ entry / 256 = omega (arith, a.same, row_small (entry % 256)) in
    let found = row_found mode_codes m (next_row mode_codes bits) few_modes (next_row-below mode_codes bits) (modes_at bits (omega (arith, h.long))) (omega (arith, a.same, big)) in
    let named : row ≡ get_or vertical_rows near.shift 0 = ap (λ k. get_or vertical_rows k 0) (sym shift) in
    record {
      small = omega (arith, a.small, shift);
      short = omega (arith, a.short, len);
      row = found.0 ∙ ap Ok (low ∙ named);
      long = len ∙ sym high ∙ found.1 ∙ ap (λ r. length (code mode_codes r)) (low ∙ named);
    }
