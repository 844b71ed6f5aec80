-- Lemmas on words: carry the pixels of bytes over to those of words of eight.
use Rattle.std.proofs.Common.{ℕ, zero, suc, ◌+◌, ◌*◌, ◌/◌, ◌%◌, ◌^◌, ◌<◌, ◌≤◌, ◌≡◌, Bool, true, false, cond, eqb, List, [], ◌∷◌, ◌++◌, length, get_or, drop, take, refl, ap, sym, ◌∙◌, subst, arith, inl, inr, ◌⊎◌, append_assoc, length-append}
use Rattle.std.specs.Int.{bit_at, to_be_bytes, from_be_bytes, w64}
use Rattle.std.proofs.Math.Nat.{mod-lt}
use Rattle.std.proofs.lemmas.List.{length-take-le, get_or_past, length-drop, get_or-take, get_or-drop}
use Rattle.std.proofs.lemmas.Nat.{be_bytes_8, pow_pos, shr_split}
use Rattle.std.proofs.lemmas.Nat.Bits.{bit_at_cat_low, bit_at_cat_high}
use Rattle.std.proofs.lemmas.Bool.{cases_lt}
use mir.Val.{bool_byte}
use Rattle.bp_rows.specs.Words.{is_one, low_pixels, byte_pixels, pixels_in_bytes, word_pixels}

pub low_pixels-low : (n k m a b : ℕ) → n ≤ m → b < 2 ^ m → low_pixels n (a * 2 ^ m + b) ≡ low_pixels n b
low_pixels-low zero k m a b h small = refl
low_pixels-low (suc n) k m a b h small =
    ap (λ v. eqb v 1 ∷ low_pixels n (a * 2 ^ m + b)) (bit_at_cat_low a m b n (omega arith))
    ∙ ap (λ bs. is_one b n ∷ bs) (low_pixels-low n k m a b (omega arith) small)

-- a number and the digits after it
pub low_pixels-append : (n m a b : ℕ) → b < 2 ^ m → low_pixels (n + m) (a * 2 ^ m + b) ≡ low_pixels n a ++ low_pixels m b
low_pixels-append zero m a b small = ap (λ k. low_pixels k (a * 2 ^ m + b)) (omega arith) ∙ low_pixels-low m 0 m a b (omega arith) small
low_pixels-append (suc n) m a b small =
    let size : suc n + m ≡ suc (n + m) = omega arith in
    ap (λ k. low_pixels k (a * 2 ^ m + b)) size
    ∙ ap (λ v. eqb v 1 ∷ low_pixels (n + m) (a * 2 ^ m + b)) (bit_at_cat_high a m b (n + m) small (omega arith) ∙ ap (bit_at a) (omega arith))
    ∙ ap (λ bs. is_one a n ∷ bs) (low_pixels-append n m a b small)

pub pixels_in-append : (xs ys : List ℕ) → pixels_in_bytes (xs ++ ys) ≡ pixels_in_bytes xs ++ pixels_in_bytes ys
pixels_in-append [] ys = refl
pixels_in-append (x ∷ xs) ys = ap (λ bits. byte_pixels x ++ bits) (pixels_in-append xs ys) ∙ sym (append_assoc (byte_pixels x) (pixels_in_bytes xs) (pixels_in_bytes ys))

pub length-pixels_in : (bytes : List ℕ) → length (pixels_in_bytes bytes) ≡ 8 * length bytes
length-pixels_in [] = refl
length-pixels_in (b ∷ bytes) = omega (arith, length-append (byte_pixels b) (pixels_in_bytes bytes), length-pixels_in bytes)

pub low_pixels-mod : (n m w : ℕ) → n ≤ m → low_pixels n (w % 2 ^ m) ≡ low_pixels n w
low_pixels-mod n m w h =
    let split = shr_split w m in
    sym (ap (low_pixels n) (sym split) ∙ low_pixels-low n 0 m (w / 2 ^ m) (w % 2 ^ m) h (mod-lt w (pow_pos m)))

-- the highest of some digits, and the rest
pub low_pixels-split : (n m w : ℕ) → low_pixels (n + m) w ≡ low_pixels n (w / 2 ^ m) ++ low_pixels m (w % 2 ^ m)
low_pixels-split n m w =
    ap (low_pixels (n + m)) (sym (shr_split w m)) ∙ low_pixels-append n m (w / 2 ^ m) (w % 2 ^ m) (mod-lt w (pow_pos m))

pub one_byte : (m w : ℕ) → low_pixels (8 + m) w ≡ byte_pixels (w / 2 ^ m % 256) ++ low_pixels m w
one_byte m w =
    low_pixels-split 8 m w
    ∙ ap (λ bs. bs ++ low_pixels m (w % 2 ^ m)) (sym (low_pixels-mod 8 8 (w / 2 ^ m) (omega arith)))
    ∙ ap (λ bs. low_pixels 8 (w / 2 ^ m % 256) ++ bs) (low_pixels-mod m m w (omega arith))

-- ---- words of eight bytes

pub byte_of : (b : Bool) → bool_byte b ≡ cond b 1 0
byte_of true = refl
byte_of false = refl

-- eight bytes of a number
pub pixels_of_eight : (n : ℕ) → pixels_in_bytes (to_be_bytes w64 n) ≡ word_pixels n
unfolding word_pixels
pixels_of_eight n =
    sym (one_byte 56 n ∙ more (n / 2 ^ 56 % 256) (one_byte 48 n ∙ more (n / 2 ^ 48 % 256) (one_byte 40 n ∙ more (n / 2 ^ 40 % 256) (one_byte 32 n
    ∙ more (n / 2 ^ 32 % 256) (one_byte 24 n ∙ more (n / 2 ^ 24 % 256) (one_byte 16 n ∙ more (n / 2 ^ 16 % 256) (one_byte 8 n ∙ more (n / 2 ^ 8 % 256) (last n))))))))
  where
    last : (w : ℕ) → low_pixels 8 w ≡ byte_pixels (w % 256)
    last w = sym (low_pixels-mod 8 8 w (omega arith))

    more : (b : ℕ) {xs ys : List Bool} → xs ≡ ys → byte_pixels b ++ xs ≡ byte_pixels b ++ ys
    more b e = ap (λ bs. byte_pixels b ++ bs) e

eight_of : (at : ℕ) (row : List ℕ) → at + 8 ≤ length row → take 8 (drop at row) ≡ get_or row at 0 ∷ get_or row (at + 1) 0 ∷ get_or row (at + 2) 0 ∷ get_or row (at + 3) 0 ∷ get_or row (at + 4) 0 ∷ get_or row (at + 5) 0 ∷ get_or row (at + 6) 0 ∷ get_or row (at + 7) 0 ∷ []
eight_of at row h =
    eight_in (drop at row) (omega (arith, length-drop at row))
    ∙ rw (get_or-drop at row 0 0, get_or-drop at row 1 0, get_or-drop at row 2 0, get_or-drop at row 3 0, get_or-drop at row 4 0, get_or-drop at row 5 0, get_or-drop at row 6 0, get_or-drop at row 7 0)
    (ap (λ k. get_or row k 0 ∷ get_or row (at + 1) 0 ∷ get_or row (at + 2) 0 ∷ get_or row (at + 3) 0 ∷ get_or row (at + 4) 0 ∷ get_or row (at + 5) 0 ∷ get_or row (at + 6) 0 ∷ get_or row (at + 7) 0 ∷ []) none)
  where
    none : at + 0 ≡ at
    none = omega arith

    eight_in : (xs : List ℕ) → 8 ≤ length xs → take 8 xs ≡ get_or xs 0 0 ∷ get_or xs 1 0 ∷ get_or xs 2 0 ∷ get_or xs 3 0 ∷ get_or xs 4 0 ∷ get_or xs 5 0 ∷ get_or xs 6 0 ∷ get_or xs 7 0 ∷ []
    eight_in (a ∷ b ∷ c ∷ d ∷ e ∷ f ∷ g ∷ i ∷ xs) h = refl
    eight_in [] h = absurd (omega arith)
    eight_in (a ∷ []) h = absurd (omega arith)
    eight_in (a ∷ b ∷ []) h = absurd (omega arith)
    eight_in (a ∷ b ∷ c ∷ []) h = absurd (omega arith)
    eight_in (a ∷ b ∷ c ∷ d ∷ []) h = absurd (omega arith)
    eight_in (a ∷ b ∷ c ∷ d ∷ e ∷ []) h = absurd (omega arith)
    eight_in (a ∷ b ∷ c ∷ d ∷ e ∷ f ∷ []) h = absurd (omega arith)
    eight_in (a ∷ b ∷ c ∷ d ∷ e ∷ f ∷ g ∷ []) h = absurd (omega arith)

pub word_read : (row : List ℕ) (at n : ℕ) → at + 8 ≤ length row → ((i : ℕ) → get_or row i 0 < 256) → n ≡ from_be_bytes w64 (get_or row at 0 ∷ get_or row (at + 1) 0 ∷ get_or row (at + 2) 0 ∷ get_or row (at + 3) 0 ∷ get_or row (at + 4) 0 ∷ get_or row (at + 5) 0 ∷ get_or row (at + 6) 0 ∷ get_or row (at + 7) 0 ∷ []) → word_pixels n ≡ pixels_in_bytes (take 8 (drop at row))
word_read row at n within small is =
    let piece = eight_of at row within in
    let long : length (take 8 (drop at row)) ≡ 8 = length-take-le 8 (drop at row) (omega (arith, length-drop at row)) in
    let bytes = be_bytes_8 (take 8 (drop at row)) n long (λ i. low i (cases_lt i 8)) (is ∙ ap (from_be_bytes w64) (sym piece)) in
    sym (pixels_of_eight n) ∙ ap (pixels_in_bytes) bytes
  where
    low : (i : ℕ) → (i < 8) ⊎ (8 ≤ i) → get_or (take 8 (drop at row)) i 0 < 256
    low i (inl less) = subst (λ (v : ℕ). v < 256) (sym (get_or-take 8 (drop at row) i 0 less ∙ get_or-drop at row i 0)) (small (at + i))
    low i (inr past) = subst (λ (v : ℕ). v < 256) (sym (get_or_past (take 8 (drop at row)) i 0 (omega (arith, length-take-le 8 (drop at row) (omega (arith, length-drop at row)))))) (omega arith)
