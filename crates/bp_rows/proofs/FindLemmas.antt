-- Lemmas on the search for changing elements: carry what was found in whole words over to the row.
use Rattle.std.proofs.Common.{ℕ, zero, suc, ◌+◌, ◌-◌, ◌*◌, ◌/◌, ◌%◌, ◌^◌, ◌<◌, ◌≤◌, ◌≡◌, Bool, true, false, eqb, List, [], ◌∷◌, ◌++◌, length, get_or, drop, take, replicate, refl, ap, sym, ◌∙◌, subst, arith, inl, inr, ◌⊎◌, bit_and, append_assoc, length-append}
use Rattle.std.specs.Int.{from_be_bytes, w64}
use Rattle.std.proofs.lemmas.List.{append-nil, length_push, get_or_at, drop-append-le, length-take-le, length-drop, take-append-drop, length-replicate, replicate-append-replicate, take_at}
use Rattle.std.proofs.lemmas.Nat.{and_mask}
use Rattle.bp_rows.specs.Bits.{row_bytes}
use Rattle.bp_rows.specs.Packed.{packed_row}
use Rattle.bp_rows.specs.Changes.{changes_from, changes_of}
use Rattle.bp_rows.specs.Words.{is_one, low_pixels, pixels_in_bytes, last_of, word_pixels}
use Rattle.bp_rows.proofs.WordLemmas.{pixels_in-append, length-pixels_in, word_read}
use Rattle.bp_rows.proofs.EdgeLemmas.{changes_from-append, last_of-append}
use Rattle.bp_rows.proofs.PixelLemmas.{pixels_in-packed_row}
use Rattle.bp_rows.proofs.ShownLemmas.{all_white, changes_below}

-- ---- a word more

last_low : (before : Bool) (k n : ℕ) → last_of before (low_pixels (suc k) n) ≡ is_one n 0
last_low before zero n = refl
last_low before (suc k) n = last_low (is_one n (suc k)) k n

last_word : (before : Bool) (n : ℕ) → last_of before (word_pixels n) ≡ is_one n 0
unfolding word_pixels
last_word before n = last_low before 63 n

pub lowest : (before : Bool) (n : ℕ) → eqb (bit_and n 1) 1 ≡ last_of before (word_pixels n)
lowest before n = ap (λ v. eqb v 1) (and_mask n 1 ∙ one n) ∙ sym (last_word before n)
  where
    one : (n : ℕ) → n % 2 ^ 1 ≡ n / 2 ^ 0 % 2
    one n = omega arith

pub found_more : (row : List ℕ) (at : ℕ) (piece : List ℕ) (places : List ℕ) (before : Bool) (word base : ℕ) → at ≤ length row → base ≡ 8 * at → places ≡ changes_of (pixels_in_bytes (take at row)) → before ≡ last_of false (pixels_in_bytes (take at row)) → word_pixels word ≡ pixels_in_bytes piece → places ++ changes_from base before (word_pixels word) ≡ changes_of (pixels_in_bytes (take at row ++ piece))
found_more row at piece places before word base within is found last bits =
    let size : base ≡ 0 + length (pixels_in_bytes (take at row)) = omega (arith, length-pixels_in (take at row), length-take-le at row within) in
    sym (ap changes_of (pixels_in-append (take at row) piece) ∙ changes_from-append 0 false (pixels_in_bytes (take at row)) (pixels_in_bytes piece)
    ∙ ap (λ ps. ps ++ changes_from (0 + length (pixels_in_bytes (take at row))) (last_of false (pixels_in_bytes (take at row))) (pixels_in_bytes piece)) (sym found)
    ∙ ap (λ n. places ++ changes_from n (last_of false (pixels_in_bytes (take at row))) (pixels_in_bytes piece)) (sym size)
    ∙ ap (λ b. places ++ changes_from base b (pixels_in_bytes piece)) (sym last)
    ∙ ap (λ bs. places ++ changes_from base before bs) (sym bits))

pub last_more : (row : List ℕ) (at : ℕ) (piece : List ℕ) (before : Bool) (word : ℕ) → before ≡ last_of false (pixels_in_bytes (take at row)) → word_pixels word ≡ pixels_in_bytes piece → last_of before (word_pixels word) ≡ last_of false (pixels_in_bytes (take at row ++ piece))
last_more row at piece before word last bits =
    sym (ap (last_of false) (pixels_in-append (take at row) piece) ∙ last_of-append false (pixels_in_bytes (take at row)) (pixels_in_bytes piece)
    ∙ ap (λ b. last_of b (pixels_in_bytes piece)) (sym last) ∙ ap (last_of before) (sym bits))

pub eight_more : (row : List ℕ) (k : ℕ) → take (8 * k) row ++ take 8 (drop (8 * k) row) ≡ take (8 * (k + 1)) row
eight_more row k = sym (ap (λ n. take n row) size ∙ both (8 * k) 8 row)
  where
    size : 8 * (k + 1) ≡ 8 * k + 8
    size = omega arith

    both : (m n : ℕ) (xs : List ℕ) → take (m + n) xs ≡ take m xs ++ take n (drop m xs)
    both zero n xs = ap (λ i. take i xs) (omega arith)
    both (suc m) n [] = ap (λ i. take i []) size' ∙ nothing n
      where
        size' : suc m + n ≡ suc (m + n)
        size' = omega arith

        nothing : (i : ℕ) → ◌≡◌ {A = List ℕ} (take (suc (m + i)) []) (take i [])
        nothing zero = refl
        nothing (suc i) = refl
    both (suc m) n (x ∷ xs) = ap (λ i. take i (x ∷ xs)) size' ∙ ap (λ ys. x ∷ ys) (both m n xs)
      where
        size' : suc m + n ≡ suc (m + n)
        size' = omega arith

-- zero bytes are white pixels
zero_bits : (k : ℕ) → pixels_in_bytes (replicate k 0) ≡ replicate (8 * k) false
zero_bits zero = refl
zero_bits (suc k) =
    ap (λ ps. false ∷ false ∷ false ∷ false ∷ false ∷ false ∷ false ∷ false ∷ ps) (zero_bits k)
    ∙ replicate-append-replicate 8 (8 * k) false ∙ ap (λ (n : ℕ). replicate n false) (size k)
  where
    size : (k : ℕ) → 8 + 8 * k ≡ 8 * suc k
    size k = omega arith

-- ---- white pixels after the end

white_more : (at k : ℕ) (before : Bool) → changes_from at before (replicate (suc k) false) ≡ changes_from at before (false ∷ [])
white_more at k false = all_white (at + 1) k
white_more at k true = ap (λ ps. at ∷ ps) (all_white (at + 1) k)

-- one white pixel after a row tells as much as many
pub white_after : (row : List Bool) (k : ℕ) → changes_of (row ++ replicate (suc k) false) ≡ changes_of (row ++ false ∷ [])
white_after row k =
    changes_from-append 0 false row (replicate (suc k) false)
    ∙ ap (λ ps. changes_of row ++ ps) (white_more (0 + length row) k (last_of false row))
    ∙ sym (changes_from-append 0 false row (false ∷ []))

white_tail : (at : ℕ) (before : Bool) → (changes_from at before (false ∷ []) ≡ []) ⊎ (changes_from at before (false ∷ []) ≡ at ∷ [])
white_tail at false = inl refl
white_tail at true = inr refl

-- a white pixel after a row adds its end or nothing
pub end_cases : (row : List Bool) → (changes_of (row ++ false ∷ []) ≡ changes_of row) ⊎ (changes_of (row ++ false ∷ []) ≡ changes_of row ++ length row ∷ [])
end_cases row =
    let all = changes_from-append 0 false row (false ∷ []) in
    let at : 0 + length row ≡ length row = omega arith in
    elim (white_tail (0 + length row) (last_of false row)) [
      | inl none ↦ inl (all ∙ ap (λ ps. changes_of row ++ ps) none ∙ append-nil (changes_of row))
      | inr one ↦ inr (all ∙ ap (λ ps. changes_of row ++ ps) one ∙ ap (λ n. changes_of row ++ n ∷ []) at)
    ]

-- the same for the bytes of a packed row
pub packed_changes : (row : List Bool) → changes_of (pixels_in_bytes (packed_row row) ++ false ∷ []) ≡ changes_of (row ++ false ∷ [])
packed_changes row =
    let k = 8 * row_bytes (length row) - length row in
    let size : k + 1 ≡ suc k = omega arith in
    ap (λ ps. changes_of (ps ++ false ∷ [])) (pixels_in-packed_row row)
    ∙ ap changes_of (append_assoc row (replicate k false) (false ∷ []) ∙ ap (λ ps. row ++ ps) (replicate-append-replicate k 1 false))
    ∙ ap (λ (n : ℕ). changes_of (row ++ replicate n false)) size
    ∙ white_after row k

-- ---- the last word

whole_row : (row : List ℕ) (at m : ℕ) → 1 ≤ m → changes_of (pixels_in_bytes (take at row ++ (drop at row ++ replicate m 0))) ≡ changes_of (pixels_in_bytes row ++ false ∷ [])
whole_row row at m some =
    let bytes : take at row ++ (drop at row ++ replicate m 0) ≡ row ++ replicate m 0 = sym (append_assoc (take at row) (drop at row) (replicate m 0)) ∙ ap (λ bs. bs ++ replicate m 0) (take-append-drop at row) in
    let size : 8 * m ≡ suc (8 * m - 1) = omega arith in
    ap (λ bs. changes_of (pixels_in_bytes bs)) bytes
    ∙ ap changes_of (pixels_in-append row (replicate m 0) ∙ ap (λ ps. pixels_in_bytes row ++ ps) (zero_bits m))
    ∙ ap (λ (n : ℕ). changes_of (pixels_in_bytes row ++ replicate n false)) size
    ∙ white_after (pixels_in_bytes row) (8 * m - 1)

-- the bytes of the tail, and zeros
pub tail_at : (row : List ℕ) (i : ℕ) → get_or (row ++ replicate 8 0) i 0 ≡ get_or row i 0
tail_at [] i = zeros 8 i
  where
    zeros : (n i : ℕ) → ◌≡◌ {A = ℕ} (get_or (replicate n 0) i 0) 0
    zeros zero i = refl
    zeros (suc n) zero = refl
    zeros (suc n) (suc i) = zeros n i
tail_at (x ∷ row) zero = refl
tail_at (x ∷ row) (suc i) = tail_at row i

pub tail_bytes : (row : List ℕ) (at : ℕ) → at ≤ length row → length row - at < 8 → take 8 (drop at (row ++ replicate 8 0)) ≡ drop at row ++ replicate (8 - (length row - at)) 0
tail_bytes row at within short =
    let n = length row - at in
    let eight : 8 - n + n ≡ 8 = omega arith in
    let zeros : ◌≡◌ {A = List ℕ} (replicate (8 - n) 0 ++ replicate n 0) (replicate 8 0) = replicate-append-replicate (8 - n) n 0 ∙ ap (λ (k : ℕ). replicate k 0) eight in
    ap (take 8) (drop-append-le at row (replicate 8 0) within ∙ ap (λ zs. drop at row ++ zs) (sym zeros) ∙ sym (append_assoc (drop at row) (replicate (8 - n) 0) (replicate n 0)))
    ∙ take_at (drop at row ++ replicate (8 - n) 0) (replicate n 0) 8 (length-append (drop at row) (replicate (8 - n) 0) ∙ omega (arith, length-drop at row, length-replicate {A = ℕ} (8 - n) 0))

-- what the code makes of them
pub tail_read : (row : List ℕ) (at n b0 b1 b2 b3 b4 b5 b6 b7 : ℕ) → at ≤ length row → length row - at < 8 → ((i : ℕ) → get_or row i 0 < 256) → b0 ≡ get_or row at 0 → b1 ≡ get_or row (at + 1) 0 → b2 ≡ get_or row (at + 2) 0 → b3 ≡ get_or row (at + 3) 0 → b4 ≡ get_or row (at + 4) 0 → b5 ≡ get_or row (at + 5) 0 → b6 ≡ get_or row (at + 6) 0 → b7 ≡ get_or row (at + 7) 0
    → n ≡ from_be_bytes w64 (b0 ∷ b1 ∷ b2 ∷ b3 ∷ b4 ∷ b5 ∷ b6 ∷ b7 ∷ []) → word_pixels n ≡ pixels_in_bytes (drop at row ++ replicate (8 - (length row - at)) 0)
tail_read row at n b0 b1 b2 b3 b4 b5 b6 b7 within short small e0 e1 e2 e3 e4 e5 e6 e7 is =
    let longer = row ++ replicate 8 0 in
    let same : (b i : ℕ) → b ≡ get_or row i 0 → b ≡ get_or longer i 0 = λ b i e. e ∙ sym (tail_at row i) in
    let list : b0 ∷ b1 ∷ b2 ∷ b3 ∷ b4 ∷ b5 ∷ b6 ∷ b7 ∷ [] ≡ get_or longer at 0 ∷ get_or longer (at + 1) 0 ∷ get_or longer (at + 2) 0 ∷ get_or longer (at + 3) 0 ∷ get_or longer (at + 4) 0 ∷ get_or longer (at + 5) 0 ∷ get_or longer (at + 6) 0 ∷ get_or longer (at + 7) 0 ∷ [] =
    cc (same b0 at e0, same b1 (at + 1) e1, same b2 (at + 2) e2, same b3 (at + 3) e3, same b4 (at + 4) e4, same b5 (at + 5) e5, same b6 (at + 6) e6, same b7 (at + 7) e7) in
    word_read longer at n (omega (arith, length-append row (replicate 8 0), length-replicate {A = ℕ} 8 0))
    (λ i. subst (λ (v : ℕ). v < 256) (sym (tail_at row i)) (small i)) (is ∙ ap (from_be_bytes w64) list)
    ∙ ap (pixels_in_bytes) (tail_bytes row at within short)

-- what the last word adds
pub found_all : (row : List ℕ) (at base : ℕ) (places all : List ℕ) (before : Bool) (word : ℕ) → at ≤ length row → length row - at < 8 → base ≡ 8 * at → places ≡ changes_of (pixels_in_bytes (take at row)) → before ≡ last_of false (pixels_in_bytes (take at row)) → word_pixels word ≡ pixels_in_bytes (drop at row ++ replicate (8 - (length row - at)) 0) → all ≡ places ++ changes_from base before (word_pixels word) → all ≡ changes_of (pixels_in_bytes row ++ false ∷ [])
found_all row at base places all before word within short size found last bits put =
    put ∙ found_more row at (drop at row ++ replicate (8 - (length row - at)) 0) places before word base within size found last bits
    ∙ whole_row row at (8 - (length row - at)) (omega arith)

-- ---- the width taken out at the end

pub kept_end : (row : List Bool) (places : List ℕ) → places ≡ changes_of (row ++ false ∷ []) → ((k : ℕ) → k + 1 ≡ length places → get_or places k 0 ≡ length row → ⊥) → places ≡ changes_of row
kept_end row places is other = elim (end_cases row) [
  | inl none ↦ is ∙ none
  | inr one ↦
      let whole = is ∙ one in
      let last : get_or places (length (changes_of row)) 0 ≡ length row = ap (λ ps. get_or ps (length (changes_of row)) 0) whole ∙ get_or_at (changes_of row) (length row) [] 0 (length (changes_of row)) refl in
      absurd (other (length (changes_of row)) (omega (arith, ap length whole, length_push (changes_of row) (length row))) last)
]

pub dropped_end : (row : List Bool) (places rest : List ℕ) → places ≡ changes_of (row ++ false ∷ []) → places ≡ rest ++ length row ∷ [] → rest ≡ changes_of row
dropped_end row places rest is split = elim (end_cases row) [
  | inl none ↦
      let whole : rest ++ length row ∷ [] ≡ changes_of row = sym split ∙ is ∙ none in
      let k = length rest in
      let less : k < length (changes_of row) = omega (arith, ap length whole, length_push rest (length row)) in
      let last : get_or (changes_of row) k 0 ≡ length row = ap (λ ps. get_or ps k 0) (sym whole) ∙ get_or_at rest (length row) [] 0 k refl in
      absurd (omega (arith, changes_below row k less, last))
  | inr one ↦ same_front rest (changes_of row) (length row) (sym split ∙ is ∙ one)
]
  where
    same_front : (xs ys : List ℕ) (n : ℕ) → xs ++ n ∷ [] ≡ ys ++ n ∷ [] → xs ≡ ys
    same_front xs ys n e =
        let size : length xs ≡ length ys = omega (arith, ap length e, length_push xs n, length_push ys n) in
        sym (take_at xs (n ∷ []) (length xs) refl) ∙ ap (take (length xs)) e ∙ ap (λ k. take k (ys ++ n ∷ [])) size ∙ take_at ys (n ∷ []) (length ys) refl
