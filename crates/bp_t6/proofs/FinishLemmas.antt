-- The last bits, with zeros to the byte.
use Rattle.std.proofs.Common.{eqb, ℕ, zero, suc, ◌+◌, ◌-◌, ◌*◌, ◌/◌, ◌%◌, ◌^◌, ◌<◌, ◌≤◌, ◌≡◌, Bool, true, false, cond, List, [], ◌∷◌, ◌++◌, length, get_or, take, map, replicate, refl, ap, sym, ◌∙◌, subst, arith, append_assoc}
use Rattle.std.specs.Int.{to_be_bytes, w32}
use Rattle.std.specs.List.{range_with_len}
use Rattle.std.proofs.lemmas.List.{take_at, length-append, length-replicate, replicate-append-replicate}
use Rattle.std.proofs.lemmas.Nat.{pow_pos, shl_whole, shl_below}
use Rattle.std.proofs.lemmas.Nat.Bits.{bit_at-zero}
use Rattle.bp_codes.specs.declared.span.Fill.TheVariants.{High}
use Rattle.bp_codes.specs.Bits.{byte_bits, bits_of, low_bits, number_of_bits}
use Rattle.bp_codes.proofs.BitListLemmas.{number-high, length-bits_of}
use Rattle.bp_rows.specs.Bits.{row_bytes}
use Rattle.bp_rows.specs.Packed.{digit_at, packed_byte, packed_row}
use Rattle.bp_t6.specs.Gathered.{gathered, IsGathered}
use Rattle.bp_t6.proofs.GatherLemmas.{bits_of-append, bits_of_word, low_bits-append}
use Rattle.bp_rows.proofs.PixelLemmas.{pixels_in-packed_row}

abbrev pub AreBytes : List ℕ → Type 0
AreBytes bytes = (i : ℕ) → get_or bytes i 0 < 256

small_append : (xs ys : List ℕ) → AreBytes xs → AreBytes ys → AreBytes (xs ++ ys)
small_append [] ys h k i = k i
small_append (x ∷ xs) ys h k zero = h 0
small_append (x ∷ xs) ys h k (suc i) = small_append xs ys (λ j. h (suc j)) k i

-- bytes with the same bits are the same
same_bytes : (xs ys : List ℕ) → AreBytes xs → AreBytes ys → bits_of High xs ≡ bits_of High ys → xs ≡ ys
same_bytes [] [] h k e = refl
same_bytes [] (y ∷ ys) h k e = cc
same_bytes (x ∷ xs) [] h k e = cc
same_bytes (x ∷ xs) (y ∷ ys) h k e =
    let first : byte_bits High x ≡ byte_bits High y = cc in
    let rest : bits_of High xs ≡ bits_of High ys = cc in
    let same : x ≡ y = sym (number-high x (h 0)) ∙ ap number_of_bits first ∙ number-high y (k 0) in
    ap (λ b. b ∷ xs) same ∙ ap (λ bs. y ∷ bs) (same_bytes xs ys (λ i. h (suc i)) (λ i. k (suc i)) rest)

digit_of_small : (b : Bool) → cond b 1 0 < 2
digit_of_small true = omega arith
digit_of_small false = omega arith

packed_small : (row : List Bool) (a n : ℕ) → AreBytes (map (λ i. packed_byte row (8 * i)) (range_with_len a n))
packed_small row a zero i = omega arith
packed_small row a (suc n) zero =
    let d : (j : ℕ) → digit_at row j < 2 = λ j. digit_of_small (get_or row j false) in
    let c = 8 * a in
    omega (arith, d c, d (c + 1), d (c + 2), d (c + 3), d (c + 4), d (c + 5), d (c + 6), d (c + 7))
packed_small row a (suc n) (suc i) = packed_small row (a + 1) n i

zeros : (k : ℕ) → low_bits k 0 ≡ replicate k false
zeros zero = refl
zeros (suc k) = ap (λ v. eqb v 1 ∷ low_bits k 0) (bit_at-zero k) ∙ ap (λ bs. false ∷ bs) (zeros k)

pub length-low_bits : (k n : ℕ) → length (low_bits k n) ≡ k
length-low_bits zero n = refl
length-low_bits (suc k) n = ap suc (length-low_bits k n)

-- the first bytes of four, and their bits
first_bits : (c a b d e : ℕ) → c ≤ 4 → bits_of High (take c (a ∷ b ∷ d ∷ e ∷ [])) ≡ take (8 * c) (bits_of High (a ∷ b ∷ d ∷ e ∷ []))
first_bits zero a b d e h = refl
first_bits (suc zero) a b d e h = refl
first_bits (suc (suc zero)) a b d e h = refl
first_bits (suc (suc (suc zero))) a b d e h = refl
first_bits (suc (suc (suc (suc zero)))) a b d e h = refl
first_bits (suc (suc (suc (suc (suc c))))) a b d e h = absurd (omega arith)

first_small : (c a b d e : ℕ) → c ≤ 4 → a < 256 → b < 256 → d < 256 → e < 256 → AreBytes (take c (a ∷ b ∷ d ∷ e ∷ []))
first_small c a b d e h ha hb hd he i = small_taken c (a ∷ b ∷ d ∷ e ∷ []) four i
  where
    four : AreBytes (a ∷ b ∷ d ∷ e ∷ [])
    four zero = ha
    four (suc zero) = hb
    four (suc (suc zero)) = hd
    four (suc (suc (suc zero))) = he
    four (suc (suc (suc (suc i)))) = omega arith

    small_taken : (c : ℕ) (xs : List ℕ) → AreBytes xs → AreBytes (take c xs)
    small_taken zero xs h i = omega arith
    small_taken (suc c) [] h i = omega arith
    small_taken (suc c) (x ∷ xs) h zero = h 0
    small_taken (suc c) (x ∷ xs) h (suc i) = small_taken c xs (λ j. h (suc j)) i

-- the bits of the word
word_bits_are : (held fill : ℕ) → IsGathered held fill → low_bits 32 (held * 2 ^ (32 - fill)) ≡ low_bits fill held ++ replicate (32 - fill) false
word_bits_are held fill kept =
    let size : 32 ≡ fill + (32 - fill) = omega (arith, kept.few) in
    let plus : held * 2 ^ (32 - fill) ≡ held * 2 ^ (32 - fill) + 0 = omega arith in
    ap (λ n. low_bits n (held * 2 ^ (32 - fill))) size ∙ ap (low_bits (fill + (32 - fill))) plus
    ∙ low_bits-append fill (32 - fill) held 0 (pow_pos (32 - fill)) ∙ ap (λ bs. low_bits fill held ++ bs) (zeros (32 - fill))

tail_bits : (held fill c : ℕ) → IsGathered held fill → c ≡ (fill + 7) / 8 → bits_of High (take c (to_be_bytes w32 (held * 2 ^ (32 - fill)))) ≡ low_bits fill held ++ replicate (8 * c - fill) false
tail_bits held fill c kept is =
    let n = held * 2 ^ (32 - fill) in
    let rest : replicate (8 * c - fill) false ++ replicate (32 - 8 * c) false ≡ replicate (32 - fill) false = replicate-append-replicate (8 * c - fill) (32 - 8 * c) false ∙ same (8 * c - fill + (32 - 8 * c)) (32 - fill) (omega (arith, kept.few)) in
    first_bits c _ _ _ _ (omega (arith, kept.few))
    ∙ ap (take (8 * c)) (bits_of_word n ∙ word_bits_are held fill kept ∙ ap (λ bs. low_bits fill held ++ bs) (sym rest) ∙ sym (append_assoc (low_bits fill held) (replicate (8 * c - fill) false) (replicate (32 - 8 * c) false)))
    ∙ take_at (low_bits fill held ++ replicate (8 * c - fill) false) (replicate (32 - 8 * c) false) (8 * c)
    (length-append (low_bits fill held) (replicate (8 * c - fill) false) ∙ omega (arith, length-low_bits fill held, length-replicate (8 * c - fill) false))
  where
    same : (m n : ℕ) → m ≡ n → replicate m false ≡ replicate n false
    same m n e = ap (λ k. replicate k false) e

pub finished : (bytes : List ℕ) (held fill c : ℕ) → IsGathered held fill → AreBytes bytes → c ≡ (fill + 7) / 8 → bytes ++ take c (to_be_bytes w32 (held * 2 ^ (32 - fill))) ≡ packed_row (gathered bytes held fill)
finished bytes held fill c kept small is =
    let n = held * 2 ^ (32 - fill) in
    let all = gathered bytes held fill in
    let long : length all ≡ length bytes * 8 + fill = length-append (bits_of High bytes) (low_bits fill held) ∙ omega (arith, length-bits_of High bytes, length-low_bits fill held) in
    let pad : 8 * c - fill ≡ 8 * row_bytes (length all) - length all = omega arith in
    let low : (v : ℕ) → v % 256 < 256 = λ v. omega arith in
    same_bytes (bytes ++ take c (to_be_bytes w32 n)) (packed_row all)
    (small_append bytes (take c (to_be_bytes w32 n)) small (first_small c _ _ _ _ (omega (arith, kept.few)) (low (n / 16777216)) (low (n / 65536)) (low (n / 256)) (low n)))
    (packed_small all 0 (row_bytes (length all)))
    (bits_of-append bytes (take c (to_be_bytes w32 n)) ∙ ap (λ bs. bits_of High bytes ++ bs) (tail_bits held fill c kept is)
    ∙ sym (append_assoc (bits_of High bytes) (low_bits fill held) (replicate (8 * c - fill) false))
    ∙ ap (λ k. all ++ replicate k false) pad ∙ sym (pixels_in-packed_row all))

pub shift_is : (held fill : ℕ) → IsGathered held fill → held * 2 ^ (32 - fill) % 18446744073709551616 ≡ held * 2 ^ (32 - fill)
shift_is held fill kept = shl_whole held fill (32 - fill) 64 kept.small (omega (arith, kept.few))

pub shift_small : (held fill : ℕ) → IsGathered held fill → held * 2 ^ (32 - fill) < 4294967296
shift_small held fill kept =
    let size : fill + (32 - fill) ≡ 32 = omega (arith, kept.few) in
    subst (λ (n : ℕ). held * 2 ^ (32 - fill) < 2 ^ n) size (shl_below held fill (32 - fill) kept.small)

-- bytes whose bits are some bits with zeros to the byte are those bits packed
pub packed_again : (bytes : List ℕ) (all : List Bool) (pad : ℕ) → AreBytes bytes → pad < 8 → bits_of High bytes ≡ all ++ replicate pad false → bytes ≡ packed_row all
packed_again bytes all pad small few is =
    let long : length bytes * 8 ≡ length all + pad =
    sym (length-bits_of High bytes) ∙ ap length is ∙ length-append all (replicate pad false) ∙ ap (λ n. length all + n) (length-replicate pad false) in
    let zeros : pad ≡ 8 * row_bytes (length all) - length all = omega (arith, long, few) in
    same_bytes bytes (packed_row all) small (packed_small all 0 (row_bytes (length all)))
    (is ∙ ap (λ k. all ++ replicate k false) zeros ∙ sym (pixels_in-packed_row all))
