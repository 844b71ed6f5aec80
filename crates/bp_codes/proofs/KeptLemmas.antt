-- That the three indexes written out in src/ keep the front of each short list of bits.
use Rattle.std.proofs.Common.{ℕ, zero, suc, ◌+◌, ◌*◌, ◌^◌, ◌<◌, ◌≤◌, ◌≡◌, Bool, true, false, List, [], ◌∷◌, length, get_or, refl, ap, sym, ◌∙◌, arith, length-append, inl, inr, add-one}
use Rattle.std.specs.List.{enumerate_from}
use Rattle.std.proofs.Math.Nat.{pow-suc, pow-le-pow_right}
use Rattle.std.proofs.lemmas.Bool.{cases_lt}
use Rattle.std.proofs.lemmas.List.{get_or_append_left, get_or-append-add}
use Rattle.bp_codes.specs.declared.white_index.TheConstants.{WHITE_INDEX}
use Rattle.bp_codes.specs.declared.black_index.TheConstants.{BLACK_INDEX}
use Rattle.bp_codes.specs.declared.mode_index.TheConstants.{MODE_INDEX}
use Rattle.bp_codes.specs.declared.index.Index.{Index}
use Rattle.bp_codes.specs.declared.index.Index.TheVariants.{White, Black, Modes}
use Rattle.bp_codes.specs.Fronts.{fronts}
use Rattle.bp_codes.specs.Bits.{number_of_bits}
use Rattle.bp_codes.specs.Index.{entry_number, index_place, IsIndexOf}
use Rattle.bp_codes.specs.CodeLists.{white_codes, black_codes, mode_codes}
use Rattle.bp_codes.proofs.BitListLemmas.{number_of-below}
use Rattle.bp_codes.proofs.TrieLemmas.{Branch, narrow, front, level, levels, white_written, black_written, modes_written}
use Rattle.bp_codes.proofs.FrontLemmas.{front-narrow, front-whole}

length-level : (codes : List (List Bool)) (n : ℕ) (branches : List Branch) → length (level codes n branches) ≡ 2 ^ n
length-level codes zero branches = refl
length-level codes (suc n) branches =
    length-append (level codes n (narrow false branches)) (level codes n (narrow true branches))
    ∙ omega (arith, pow-suc 2 n, length-level codes n (narrow false branches), length-level codes n (narrow true branches))

-- a level has each list of bits at the number that they are
get-level : (codes : List (List Bool)) (bits : List Bool) (branches : List Branch) → get_or (level codes (length bits) branches) (number_of_bits bits) 0 ≡ entry_number codes (front branches bits)
get-level codes [] branches = refl
get-level codes (false ∷ bits) branches =
    let within : number_of_bits bits < length (level codes (length bits) (narrow false branches)) = omega (arith, length-level codes (length bits) (narrow false branches), number_of-below bits) in
    ap (λ k. get_or (level codes (suc (length bits)) branches) k 0) (omega arith)
    ∙ get_or_append_left (level codes (length bits) (narrow false branches)) (level codes (length bits) (narrow true branches)) 0 (number_of_bits bits) within
    ∙ get-level codes bits (narrow false branches) ∙ ap (entry_number codes) (front-narrow false bits branches)
get-level codes (true ∷ bits) branches =
    let place : 2 ^ length bits + number_of_bits bits ≡ length (level codes (length bits) (narrow false branches)) + number_of_bits bits = omega (arith, length-level codes (length bits) (narrow false branches)) in
    ap (λ k. get_or (level codes (suc (length bits)) branches) k 0) place
    ∙ get_or-append-add (level codes (length bits) (narrow false branches)) (level codes (length bits) (narrow true branches)) (number_of_bits bits) 0
    ∙ get-level codes bits (narrow true branches) ∙ ap (entry_number codes) (front-narrow true bits branches)

pub length-levels : (codes : List (List Bool)) (k : ℕ) (branches : List Branch) → length (255 ∷ levels codes k branches) ≡ 2 ^ (k + 1)
length-levels codes zero branches = refl
length-levels codes (suc k) branches =
    let more = length-append (255 ∷ levels codes k branches) (level codes (suc k) branches) in
    let shape : suc k + 1 ≡ suc (k + 1) = omega arith in
    let double : 2 ^ (suc k + 1) ≡ 2 ^ (k + 1) * 2 = ap (λ m. 2 ^ m) shape ∙ pow-suc 2 (k + 1) in
    let last : 2 ^ suc k ≡ 2 ^ (k + 1) = ap (λ m. 2 ^ m) (sym (add-one k)) in
    more ∙ omega (arith, length-levels codes k branches, length-level codes (suc k) branches, double, last)

-- the levels stand one after another
get-levels : (codes : List (List Bool)) (k n p : ℕ) (branches : List Branch) → n ≤ k → p < 2 ^ n → get_or (255 ∷ levels codes k branches) (2 ^ n + p) 0 ≡ get_or (level codes n branches) p 0
get-levels codes zero zero zero branches h below = refl
get-levels codes zero zero (suc p) branches h below = absurd (omega arith)
get-levels codes zero (suc n) p branches h below = absurd (omega arith)
get-levels codes (suc k) n p branches h below =
    elim (cases_lt k n) [
      | inl last ↦
          let e : n ≡ suc k = omega arith in
          let at_n : 2 ^ n ≡ 2 ^ (k + 1) = ap (λ m. 2 ^ m) (e ∙ sym (add-one k)) in
          let place : 2 ^ n + p ≡ length (255 ∷ levels codes k branches) + p = omega (arith, at_n, length-levels codes k branches) in
          ap (λ m. get_or (255 ∷ levels codes (suc k) branches) m 0) place
          ∙ get_or-append-add (255 ∷ levels codes k branches) (level codes (suc k) branches) p 0
          ∙ ap (λ m. get_or (level codes m branches) p 0) (sym e)
      | inr before ↦
          let grows : 2 ^ (n + 1) ≤ 2 ^ (k + 1) = pow-le-pow_right {n = 2} (omega arith) {i = n + 1} {j = k + 1} (omega arith) in
          let double : 2 ^ (n + 1) ≡ 2 ^ n * 2 = ap (λ m. 2 ^ m) (add-one n) ∙ pow-suc 2 n in
          let within : 2 ^ n + p < length (255 ∷ levels codes k branches) = omega (arith, grows, double, length-levels codes k branches) in
          get_or_append_left (255 ∷ levels codes k branches) (level codes (suc k) branches) 0 (2 ^ n + p) within
          ∙ get-levels codes k n p branches before below
    ]

index_of : (codes : List (List Bool)) (k : ℕ) (index : List ℕ) → index ≡ 255 ∷ levels codes k (enumerate_from 0 codes) → IsIndexOf codes k index
index_of codes k index is bits short =
    ap (λ xs. get_or xs (index_place bits) 0) is
    ∙ get-levels codes k (length bits) (number_of_bits bits) (enumerate_from 0 codes) short (number_of-below bits)
    ∙ get-level codes bits (enumerate_from 0 codes) ∙ ap (entry_number codes) (front-whole codes bits)

pub white_kept : IsIndexOf white_codes 12 WHITE_INDEX
white_kept = index_of white_codes 12 WHITE_INDEX white_written

pub black_kept : IsIndexOf black_codes 13 BLACK_INDEX
black_kept = index_of black_codes 13 BLACK_INDEX black_written

pub modes_kept : IsIndexOf mode_codes 7 MODE_INDEX
modes_kept = index_of mode_codes 7 MODE_INDEX modes_written

-- ---- the three indexes by name

pub length-white : length (fronts White) ≡ 8192
unfolding fronts
length-white = ap length white_written ∙ length-levels white_codes 12 (enumerate_from 0 white_codes)

pub length-black : length (fronts Black) ≡ 16384
unfolding fronts
length-black = ap length black_written ∙ length-levels black_codes 13 (enumerate_from 0 black_codes)

pub length-modes : length (fronts Modes) ≡ 256
unfolding fronts
length-modes = ap length modes_written ∙ length-levels mode_codes 7 (enumerate_from 0 mode_codes)

pub white_place : (index : Index) (place : ℕ) → index ≡ White → place < length (fronts index) → place < 8192
white_place index place is within = omega (arith, ap (λ i. length (fronts i)) is, length-white)

pub black_place : (index : Index) (place : ℕ) → index ≡ Black → place < length (fronts index) → place < 16384
black_place index place is within = omega (arith, ap (λ i. length (fronts i)) is, length-black)

pub modes_place : (index : Index) (place : ℕ) → index ≡ Modes → place < length (fronts index) → place < 256
modes_place index place is within = omega (arith, ap (λ i. length (fronts i)) is, length-modes)

pub at_white : (index : Index) (place : ℕ) → index ≡ White → get_or WHITE_INDEX place 0 ≡ get_or (fronts index) place 0
unfolding fronts
at_white index place is = sym (ap (λ i. get_or (fronts i) place 0) is)

pub at_black : (index : Index) (place : ℕ) → index ≡ Black → get_or BLACK_INDEX place 0 ≡ get_or (fronts index) place 0
unfolding fronts
at_black index place is = sym (ap (λ i. get_or (fronts i) place 0) is)

pub at_modes : (index : Index) (place : ℕ) → index ≡ Modes → get_or MODE_INDEX place 0 ≡ get_or (fronts index) place 0
unfolding fronts
at_modes index place is = sym (ap (λ i. get_or (fronts i) place 0) is)
