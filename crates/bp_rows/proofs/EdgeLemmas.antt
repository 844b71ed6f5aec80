-- Lemmas on changing elements found in words: carry the ones of a word of edges over to changing elements.
use Rattle.std.proofs.Common.{ℕ, zero, suc, ◌+◌, ◌-◌, ◌*◌, ◌/◌, ◌%◌, ◌^◌, ◌<◌, ◌≤◌, ◌≡◌, Bool, true, false, cond, eqb, List, [], ◌∷◌, ◌++◌, length, refl, ap, sym, ◌∙◌, subst, arith, bit_or, bit_xor, if◌then◌else◌}
use Rattle.std.specs.Int.{bit_at}
use Rattle.std.proofs.Math.Nat.{pow-suc}
use Rattle.std.specs.Int.Count.{count_leading_zeros}
use Rattle.std.proofs.lemmas.Nat.{one_shl, or_shifted, leading_top}
use Rattle.std.proofs.lemmas.Nat.Bits.{bit_at-zero, bit_at_xor, bit_at-suc, bit_at-lt, bit_at_above, bit_at_cat_low, bit_at_cat_high}
use Rattle.bp_rows.specs.Changes.{differs, changes_from}
use Rattle.bp_rows.specs.Words.{is_one, low_pixels, word_ones, word_pixels, last_of, ones_from}

-- ---- one piece after another

pub changes_from-append : (at : ℕ) (before : Bool) (xs ys : List Bool) → changes_from at before (xs ++ ys) ≡ changes_from at before xs ++ changes_from (at + length xs) (last_of before xs) ys
changes_from-append at before [] ys = ap (λ n. changes_from n before ys) (omega arith)
changes_from-append at before (x ∷ xs) ys =
    let rest : changes_from (at + 1) x (xs ++ ys) ≡ changes_from (at + 1) x xs ++ changes_from (at + suc (length xs)) (last_of x xs) ys =
    changes_from-append (at + 1) x xs ys ∙ ap (λ n. changes_from (at + 1) x xs ++ changes_from n (last_of x xs) ys) (omega arith) in
    elim (differs before x) as (λ b. (if b then at ∷ changes_from (at + 1) x (xs ++ ys) else changes_from (at + 1) x (xs ++ ys)) ≡ (if b then at ∷ changes_from (at + 1) x xs else changes_from (at + 1) x xs) ++ changes_from (at + suc (length xs)) (last_of x xs) ys) [
      | true ↦ ap (λ ps. at ∷ ps) rest
      | false ↦ rest
    ]

pub last_of-append : (before : Bool) (xs ys : List Bool) → last_of before (xs ++ ys) ≡ last_of (last_of before xs) ys
last_of-append before [] ys = refl
last_of-append before (x ∷ xs) ys = last_of-append x xs ys

-- ---- the ones of a word of edges

bit_differs : (x y : ℕ) → x < 2 → y < 2 → eqb ((x + y) % 2) 1 ≡ differs (eqb y 1) (eqb x 1)
bit_differs zero zero h k = refl
bit_differs zero (suc zero) h k = refl
bit_differs (suc zero) zero h k = refl
bit_differs (suc zero) (suc zero) h k = refl
bit_differs (suc (suc x)) y h k = absurd (omega arith)
bit_differs zero (suc (suc y)) h k = absurd (omega arith)
bit_differs (suc zero) (suc (suc y)) h k = absurd (omega arith)

-- a is_one of w with the half of w turned out: whether it differs from the one above it
edge : (w i : ℕ) → is_one (bit_xor w (w / 2)) i ≡ differs (is_one w (suc i)) (is_one w i)
edge w i =
    ap (λ v. eqb v 1) (bit_at_xor w (w / 2) i ∙ ap (λ v. (bit_at w i + v) % 2) (sym (bit_at-suc w i)))
    ∙ bit_differs (bit_at w i) (bit_at w (suc i)) (bit_at-lt w i) (bit_at-lt w (suc i))

ones_of_edges : (at k e w : ℕ) → ((i : ℕ) → i < k → is_one e i ≡ differs (is_one w (suc i)) (is_one w i)) → ones_from at k e ≡ changes_from at (is_one w k) (low_pixels k w)
ones_of_edges at zero e w h = refl
ones_of_edges at (suc k) e w h =
    let rest = ones_of_edges (at + 1) k e w (λ i low. h i (omega arith)) in
    ap (λ b. if b then at ∷ ones_from (at + 1) k e else ones_from (at + 1) k e) (h k (omega arith))
    ∙ ap (λ ps. if differs (is_one w (suc k)) (is_one w k) then at ∷ ps else ps) rest

-- the low 64 bits of a word with a is_one before it
abbrev joined : Bool → ℕ → ℕ
joined before w = cond before 1 0 * 2 ^ 64 + w

joined_before : (before : Bool) (w : ℕ) → w < 2 ^ 64 → is_one (joined before w) 64 ≡ before
joined_before before w small =
    ap (λ v. eqb v 1) (bit_at_cat_high (cond before 1 0) 64 w 64 small (omega arith)) ∙ top before
  where
    top : (b : Bool) → eqb (bit_at (cond b 1 0) (64 - 64)) 1 ≡ b
    top true = refl
    top false = refl

joined_low : (before : Bool) (w i : ℕ) → i < 64 → is_one (joined before w) i ≡ is_one w i
joined_low before w i low = ap (λ v. eqb v 1) (bit_at_cat_low (cond before 1 0) 64 w i low)

joined_bits : (k : ℕ) (before : Bool) (w : ℕ) → k ≤ 64 → low_pixels k (joined before w) ≡ low_pixels k w
joined_bits zero before w h = refl
joined_bits (suc k) before w h =
    ap (λ b. b ∷ low_pixels k (joined before w)) (joined_low before w k (omega arith)) ∙ ap (λ bs. is_one w k ∷ bs) (joined_bits k before w (omega arith))

-- what the code makes of a word: before << 63 | word >> 1
half_of : (before : Bool) (w : ℕ) → w < 2 ^ 64 → bit_or (cond before 1 0 * 9223372036854775808 % 18446744073709551616) (w / 2) ≡ joined before w / 2
half_of before w small = ap (λ v. bit_or v (w / 2)) (whole before) ∙ or_shifted (cond before 1 0) 63 (w / 2) (omega arith) ∙ half before
  where
    whole : (b : Bool) → cond b 1 0 * 9223372036854775808 % 18446744073709551616 ≡ cond b 1 0 * 2 ^ 63
    whole true = refl
    whole false = refl

    half : (b : Bool) → cond b 1 0 * 2 ^ 63 + w / 2 ≡ joined b w / 2
    half true = omega arith
    half false = omega arith

pub word_edges : (at : ℕ) (before : Bool) (w : ℕ) → w < 2 ^ 64 → word_ones at (bit_xor w (bit_or (cond before 1 0 * 9223372036854775808 % 18446744073709551616) (w / 2))) ≡ changes_from at before (word_pixels w)
unfolding word_ones word_pixels
word_edges at before w small =
    let wide = joined before w in
    ap (λ v. ones_from at 64 (bit_xor w v)) (half_of before w small)
    ∙ ones_of_edges at 64 (bit_xor w (wide / 2)) wide
    (λ i low. ap (λ v. eqb v 1) (bit_at_xor w (wide / 2) i)
    ∙ ap (λ v. eqb ((v + bit_at (wide / 2) i) % 2) 1) (sym (bit_at_cat_low (cond before 1 0) 64 w i low))
    ∙ sym (ap (λ v. eqb v 1) (bit_at_xor wide (wide / 2) i)) ∙ edge wide i)
    ∙ ap (λ b. changes_from at b (low_pixels 64 wide)) (joined_before before w small)
    ∙ ap (changes_from at before) (joined_bits 64 before w (omega arith))

-- ---- the ones, the highest first

-- no one stands above j
ones_skip : (at j k n : ℕ) → n < 2 ^ j → ones_from at (k + j) n ≡ ones_from (at + k) j n
ones_skip at j zero n small = ap (λ m. ones_from at m n) (omega arith) ∙ ap (λ m. ones_from m j n) (omega arith)
ones_skip at j (suc k) n small =
    let size : suc k + j ≡ suc (k + j) = omega arith in
    let none : is_one n (k + j) ≡ false = ap (λ v. eqb v 1) (bit_at_above n j (k + j) small (omega arith)) in
    ap (λ m. ones_from at m n) size
    ∙ ap (λ b. if b then at ∷ ones_from (at + 1) (k + j) n else ones_from (at + 1) (k + j) n) none
    ∙ ones_skip (at + 1) j k n small ∙ ap (λ m. ones_from m j n) (omega arith)

one_more : (j n : ℕ) → 2 ^ j + n ≡ 1 * 2 ^ j + n
one_more j n = omega arith

-- only the low bits count
ones_low : (at k j n : ℕ) → k ≤ j → ones_from at k (2 ^ j + n) ≡ ones_from at k n
ones_low at zero j n h = refl
ones_low at (suc k) j n h =
    let same : is_one (2 ^ j + n) k ≡ is_one n k = ap (λ v. is_one v k) (one_more j n) ∙ ap (λ v. eqb v 1) (bit_at_cat_low 1 j n k (omega arith)) in
    ap (λ b. if b then at ∷ ones_from (at + 1) k (2 ^ j + n) else ones_from (at + 1) k (2 ^ j + n)) same
    ∙ ap (λ ps. if is_one n k then at ∷ ps else ps) (ones_low (at + 1) k j n (omega arith))

top_one : (j n : ℕ) → n < 2 ^ j → is_one (2 ^ j + n) j ≡ true
top_one j n small =
    let none : j - j ≡ 0 = omega arith in
    ap (λ v. is_one v j) (one_more j n) ∙ ap (λ v. eqb v 1) (bit_at_cat_high 1 j n j small (omega arith)) ∙ ap (λ i. is_one 1 i) none

-- the first one
first_one : (at z j n : ℕ) → z + suc j ≡ 64 → n < 2 ^ j → ones_from at 64 (2 ^ j + n) ≡ (at + z) ∷ ones_from at 64 n
first_one at z j n size small =
    let twice : 2 ^ suc j ≡ 2 ^ j + 2 ^ j = omega (arith, pow-suc 2 j) in
    let skip = ones_skip at (suc j) z (2 ^ j + n) (subst (λ (m : ℕ). 2 ^ j + n < m) (sym twice) (omega arith)) in
    let other = ones_skip at j (suc z) n small in
    let whole : 64 ≡ suc z + j = omega arith in
    ap (λ m. ones_from at m (2 ^ j + n)) (sym size) ∙ skip
    ∙ ap (λ b. if b then (at + z) ∷ ones_from (at + z + 1) j (2 ^ j + n) else ones_from (at + z + 1) j (2 ^ j + n)) (top_one j n small)
    ∙ ap (λ ps. (at + z) ∷ ps) (ones_low (at + z + 1) j j n (omega arith) ∙ ap (λ m. ones_from m j n) (omega arith) ∙ sym other ∙ ap (λ m. ones_from at m n) (sym whole))

pub ones_more : (at e : ℕ) → 0 < e → e < 2 ^ 64 → (j : ℕ) × (count_leading_zeros 64 e + suc j ≡ 64) × (2 ^ j ≤ e) × (word_ones at e ≡ (at + count_leading_zeros 64 e) ∷ word_ones at (e - 2 ^ j))
unfolding word_ones
ones_more at e some small =
    let top = leading_top 64 e some small in
    let j = top.0 in
    let below : e - 2 ^ j < 2 ^ j = omega (arith, pow-suc 2 j, top.2, top.3) in
    let split : e ≡ 2 ^ j + (e - 2 ^ j) = omega (arith, top.2) in
    (j, top.1, top.2, ap (ones_from at 64) split ∙ first_one at (count_leading_zeros 64 e) j (e - 2 ^ j) top.1 below)

pub no_ones : (at k : ℕ) → ones_from at k 0 ≡ []
no_ones at zero = refl
no_ones at (suc k) =
    let none : is_one 0 k ≡ false = ap (λ v. eqb v 1) (bit_at-zero k) in
    ap (λ b. if b then at ∷ ones_from (at + 1) k 0 else ones_from (at + 1) k 0) none ∙ no_ones (at + 1) k

pub word_none : (at : ℕ) → word_ones at 0 ≡ []
unfolding word_ones
word_none at = no_ones at 64

pub shl_one : (z j : ℕ) → z + suc j ≡ 64 → 1 * 2 ^ (63 - z) % 18446744073709551616 ≡ 2 ^ j
shl_one z j h =
    let e : 63 - z ≡ j = omega arith in
    ap (λ k. 1 * 2 ^ k % 18446744073709551616) e ∙ one_shl j 64 (omega arith)
