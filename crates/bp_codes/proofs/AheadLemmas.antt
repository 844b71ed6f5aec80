-- That a word of eight bytes, shifted to a place, holds the bits that come next, and what is read out of it.
use Rattle.std.proofs.Common.{ℕ, zero, suc, ◌+◌, ◌-◌, ◌*◌, ◌/◌, ◌%◌, ◌^◌, ◌<◌, ◌≤◌, ◌≡◌, Bool, false, List, [], ◌∷◌, ◌++◌, length, take, drop, replicate, get_or, refl, ap, sym, ◌∙◌, subst, arith, length-append, length-drop, add-zero, bit_or}
use Rattle.std.proofs.lemmas.Nat.{or_shifted}
use Rattle.std.proofs.lemmas.List.{take-append-drop, take-append-le, drop-append-le, take_all, drop-take, drop-drop, append_assoc, length-replicate}
use Rattle.bp_codes.specs.declared.span.Fill.{Fill}
use Rattle.bp_codes.specs.declared.span.Fill.TheVariants.{High}
use Rattle.bp_codes.specs.Bits.{bits_of, number_of_bits, word_at}
use Rattle.bp_codes.specs.Ahead.{IsAhead}
use Rattle.bp_codes.proofs.BitListLemmas.{length-bits_of, number_of-append, number_of-drop, drop-bits_of, first_four, four_bytes, in_the_rest, shifted_out, middle}

-- ---- eight bytes

-- the first four bytes from a place on, and what follows
front_four : (fill : Fill) (bytes : List ℕ) (q : ℕ) → q + 4 ≤ length bytes → bits_of fill (drop q bytes) ≡ four_bytes fill (get_or bytes q 0) (get_or bytes (q + 1) 0) (get_or bytes (q + 2) 0) (get_or bytes (q + 3) 0) ++ bits_of fill (drop (q + 4) bytes)
front_four fill bytes q within =
    let rest = drop q bytes in
    let room : 32 ≤ length rest * 8 = omega (arith, length-drop q bytes) in
    let four = four_bytes fill (get_or rest 0 0) (get_or rest 1 0) (get_or rest 2 0) (get_or rest 3 0) in
    let front : take 32 (bits_of fill rest) ≡ four =
    first_four fill 32 rest (omega arith) room ∙ take_all 32 four (omega (arith, length-bits_of fill (get_or rest 0 0 ∷ get_or rest 1 0 ∷ get_or rest 2 0 ∷ get_or rest 3 0 ∷ []))) in
    let behind : drop 32 (bits_of fill rest) ≡ bits_of fill (drop (q + 4) bytes) =
    drop-bits_of fill 4 0 rest ∙ ap (bits_of fill) (drop-drop 4 q bytes) in
    sym (take-append-drop 32 (bits_of fill rest)) ∙ ap (λ xs. xs ++ drop 32 (bits_of fill rest)) front ∙ ap (λ xs. four ++ xs) behind
    ∙ ap (λ xs. xs ++ bits_of fill (drop (q + 4) bytes)) (rw (in_the_rest bytes q 0, in_the_rest bytes q 1, in_the_rest bytes q 2, in_the_rest bytes q 3, add-zero q) refl)

-- the first eight bytes from a place on, as bits
abbrev eight : List ℕ → ℕ → List Bool
eight bytes q =
    four_bytes High (get_or bytes q 0) (get_or bytes (q + 1) 0) (get_or bytes (q + 2) 0) (get_or bytes (q + 3) 0)
    ++ four_bytes High (get_or bytes (q + 4) 0) (get_or bytes (q + 4 + 1) 0) (get_or bytes (q + 4 + 2) 0) (get_or bytes (q + 4 + 3) 0)

length-four : (x y z w : ℕ) → length (four_bytes High x y z w) ≡ 32
length-four x y z w = length-bits_of High (x ∷ y ∷ z ∷ w ∷ [])

length-eight : (bytes : List ℕ) (q : ℕ) → length (eight bytes q) ≡ 64
length-eight bytes q = refl

front_eight : (bytes : List ℕ) (q : ℕ) → q + 8 ≤ length bytes → bits_of High (drop q bytes) ≡ eight bytes q ++ bits_of High (drop (q + 4 + 4) bytes)
front_eight bytes q within =
    let first = four_bytes High (get_or bytes q 0) (get_or bytes (q + 1) 0) (get_or bytes (q + 2) 0) (get_or bytes (q + 3) 0) in
    let second = four_bytes High (get_or bytes (q + 4) 0) (get_or bytes (q + 4 + 1) 0) (get_or bytes (q + 4 + 2) 0) (get_or bytes (q + 4 + 3) 0) in
    front_four High bytes q (omega arith)
    ∙ ap (λ xs. first ++ xs) (front_four High bytes (q + 4) (omega arith))
    ∙ sym (append_assoc first second (bits_of High (drop (q + 4 + 4) bytes)))

-- the number that the code makes of them
number-eight : (bytes : List ℕ) (q : ℕ) → number_of_bits (eight bytes q) ≡ word_at High bytes q * 2 ^ 32 + word_at High bytes (q + 4)
number-eight bytes q =
    number_of-append (four_bytes High (get_or bytes q 0) (get_or bytes (q + 1) 0) (get_or bytes (q + 2) 0) (get_or bytes (q + 3) 0)) (four_bytes High (get_or bytes (q + 4) 0) (get_or bytes (q + 4 + 1) 0) (get_or bytes (q + 4 + 2) 0) (get_or bytes (q + 4 + 3) 0))

number-zeros : (n : ℕ) → number_of_bits (replicate n false) ≡ 0
number-zeros zero = refl
number-zeros (suc n) = omega (arith, number-zeros n)

-- two words in one
pub long_word_is : (high low x y : ℕ) → x ≡ high → y ≡ low → high < 4294967296 → low < 4294967296 → bit_or (x * 2 ^ 32 % 2 ^ 64) y ≡ high * 2 ^ 32 + low
long_word_is high low x y is_x is_y h l =
    let shifted : x * 2 ^ 32 % 2 ^ 64 ≡ high * 2 ^ 32 = omega (arith, is_x) in
    ap (λ v. bit_or v y) shifted ∙ ap (λ v. bit_or (high * 2 ^ 32) v) is_y ∙ or_shifted high 32 low (omega arith)

-- the word, shifted to the place within its first byte, is a look-ahead
ahead_from : (bytes : List ℕ) (at q r word : ℕ) → at ≡ 8 * q + r → r < 8 → q + 8 ≤ length bytes → word ≡ word_at High bytes q * 2 ^ 32 + word_at High bytes (q + 4) → IsAhead (word * 2 ^ r % 2 ^ 64) (drop at (bits_of High bytes))
ahead_from bytes at q r word place small within is =
    let bits = eight bytes q in
    let behind = bits_of High (drop (q + 4 + 4) bytes) in
    let left : length (drop r bits) ≡ 64 - r = length-drop r bits in
    let there : drop at (bits_of High bytes) ≡ drop r bits ++ behind =
    ap (λ n. drop n (bits_of High bytes)) place ∙ drop-bits_of High q r bytes ∙ ap (drop r) (front_eight bytes q within)
    ∙ drop-append-le r bits behind (omega (arith, length-eight bytes q)) in
    let first : take 57 (drop r bits ++ replicate r false) ≡ take 57 (drop r bits) = take-append-le 57 (drop r bits) (replicate r false) (omega (arith, left)) in
    let second : take 57 (drop r bits ++ behind) ≡ take 57 (drop r bits) = take-append-le 57 (drop r bits) behind (omega (arith, left)) in
    let all : 64 - r + r ≡ 64 = omega arith in
    let high : number_of_bits (drop r bits) ≡ number_of_bits bits % 2 ^ (64 - r) = number_of-drop r (64 - r) bits (omega (arith, length-eight bytes q)) in
    record {
      digits = drop r bits ++ replicate r false;
      count = length-append (drop r bits) (replicate r false) ∙ omega (arith, left, length-replicate r false);
      number =
          number_of-append (drop r bits) (replicate r false)
          ∙ ap (λ v. number_of_bits (drop r bits) * 2 ^ length (replicate r false) + v) (number-zeros r) ∙ add-zero (number_of_bits (drop r bits) * 2 ^ length (replicate r false))
          ∙ ap (λ n. number_of_bits (drop r bits) * 2 ^ n) (length-replicate r false)
          ∙ ap (λ v. v * 2 ^ r) high
          ∙ sym (shifted_out (number_of_bits bits) r (64 - r))
          ∙ ap (λ n. number_of_bits bits * 2 ^ r % 2 ^ n) all
          ∙ ap (λ v. v * 2 ^ r % 2 ^ 64) (number-eight bytes q ∙ sym is);
      long = let P : List Bool → Type 0 = λ xs. 57 ≤ length xs in subst P (sym there) (omega (arith, length-append (drop r bits) behind, left));
      same = first ∙ sym second ∙ ap (take 57) (sym there);
    }

pub ahead_is : (fill : Fill) (bytes : List ℕ) (at word : ℕ) → fill ≡ High → at / 8 + 8 ≤ length bytes → word ≡ word_at High bytes (at / 8) * 2 ^ 32 + word_at High bytes (at / 8 + 4) → IsAhead (word * 2 ^ (at % 8) % 2 ^ 64) (drop at (bits_of fill bytes))
ahead_is fill bytes at word high within is =
    let P : Fill → Type 0 = λ f. IsAhead (word * 2 ^ (at % 8) % 2 ^ 64) (drop at (bits_of f bytes)) in
    subst P (sym high) (ahead_from bytes at (at / 8) (at % 8) word (omega arith) (omega arith) within is)

-- ---- bits out of a look-ahead

-- of more bits only the first
take_less : (n m : ℕ) (xs : List Bool) → n ≤ m → take n (take m xs) ≡ take n xs
take_less zero m xs h = refl
take_less (suc n) zero xs h = absurd (omega arith)
take_less (suc n) (suc m) [] h = refl
take_less (suc n) (suc m) (x ∷ xs) h = ap (λ ys. x ∷ ys) (take_less n m xs (omega arith))

-- some bits behind others, as a number
pub window_ahead : (word skipped count : ℕ) (bits : List Bool) → IsAhead word bits → skipped + count ≤ 57 → word * 2 ^ skipped % 2 ^ 64 / 2 ^ (64 - count) ≡ number_of_bits (take count (drop skipped bits))
window_ahead word skipped count bits a short =
    let front : take (skipped + count) a.digits ≡ take (skipped + count) bits =
    sym (take_less (skipped + count) 57 a.digits short) ∙ ap (take (skipped + count)) a.same ∙ take_less (skipped + count) 57 bits short in
    let same : take count (drop skipped a.digits) ≡ take count (drop skipped bits) =
    sym (drop-take skipped count a.digits) ∙ ap (drop skipped) front ∙ drop-take skipped count bits in
    ap (λ v. v * 2 ^ skipped % 2 ^ 64 / 2 ^ (64 - count)) (sym a.number)
    ∙ sym (middle a.digits skipped count (64 - skipped - count) 64 a.count (omega arith)) ∙ ap number_of_bits same
