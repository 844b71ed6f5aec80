-- Lists of bits, the numbers that they are, and the bits of bytes.
use Rattle.std.proofs.Common.{ℕ, zero, suc, ◌+◌, ◌-◌, ◌*◌, ◌/◌, ◌%◌, ◌^◌, ◌<◌, ◌≤◌, ◌≡◌, Bool, true, false, List, [], ◌∷◌, ◌++◌, length, take, drop, map, get_or, if◌then◌else◌, refl, ap, sym, ◌∙◌, subst, arith, length-append, length-drop, add-zero, inl, inr, bit_and, bit_or, nat_eq, slice_get, Some}
use Rattle.std.proofs.Math.Nat.{pow-suc, mul-mod_left}
use Rattle.std.proofs.lemmas.Nat.{mod-pow-add, shl-shr, shr-shr, pow-add, shr_high, or_shifted, mod_low}
use Rattle.std.proofs.lemmas.Bool.{cases_eq}
use Rattle.std.proofs.lemmas.Nat.Bits.{shr_and_one}
use Rattle.std.proofs.lemmas.Option.{slice_get-get_or}
use Rattle.std.proofs.lemmas.List.{drop_more, get_or_append_left, drop-drop, drop_all, get_or-drop, take-append-drop, take-append-le, drop-take, append_assoc}
use Rattle.bp_codes.specs.declared.span.Fill.{Fill}
use Rattle.bp_codes.specs.declared.span.Fill.TheVariants.{High, Low}
use Rattle.bp_codes.specs.declared.reversed.TheConstants.{REVERSED}
use Rattle.bp_codes.specs.Bits.{bit, byte_bits, bits_of, number_of_bits, word_at}

-- ---- numbers

first_digit : (b : Bool) (n r : ℕ) → r < 2 ^ n → (if b then 2 ^ n else 0) + r < 2 ^ suc n
first_digit true n r h = omega (arith, pow-suc 2 n)
first_digit false n r h = omega (arith, pow-suc 2 n)

pub number_of-below : (bits : List Bool) → number_of_bits bits < 2 ^ length bits
number_of-below [] = omega arith
number_of-below (b ∷ bits) = first_digit b (length bits) (number_of_bits bits) (number_of-below bits)

shifted : (b : Bool) (n m x y : ℕ) → (if b then 2 ^ (n + m) else 0) + (x * 2 ^ m + y) ≡ ((if b then 2 ^ n else 0) + x) * 2 ^ m + y
shifted true n m x y = omega (arith, pow-add 2 n m)
shifted false n m x y = omega arith

pub number_of-append : (xs ys : List Bool) → number_of_bits (xs ++ ys) ≡ number_of_bits xs * 2 ^ length ys + number_of_bits ys
number_of-append [] ys = omega arith
number_of-append (b ∷ xs) ys =
    rw (length-append xs ys, number_of-append xs ys) (shifted b (length xs) (length ys) (number_of_bits xs) (number_of_bits ys))

-- the front of bits is their number without its low digits
pub number_of-take : (n k : ℕ) (bits : List Bool) → length bits ≡ n + k → number_of_bits (take n bits) ≡ number_of_bits bits / 2 ^ k
number_of-take n k bits h =
    let rest : length (drop n bits) ≡ k = omega (arith, length-drop n bits) in
    let whole = ap number_of_bits (take-append-drop n bits) in
    let split = number_of-append (take n bits) (drop n bits) in
    let small : number_of_bits (drop n bits) < 2 ^ k = let P : ℕ → Type 0 = λ m. number_of_bits (drop n bits) < 2 ^ m in subst P rest (number_of-below (drop n bits)) in
    let at_k : number_of_bits bits ≡ number_of_bits (take n bits) * 2 ^ k + number_of_bits (drop n bits) = sym whole ∙ split ∙ ap (λ m. number_of_bits (take n bits) * 2 ^ m + number_of_bits (drop n bits)) rest in
    sym (ap (λ v. v / 2 ^ k) at_k ∙ shr_high (number_of_bits (take n bits)) k (number_of_bits (drop n bits)) small)

-- what is left of bits is their number's low digits
pub number_of-drop : (n k : ℕ) (bits : List Bool) → length bits ≡ n + k → number_of_bits (drop n bits) ≡ number_of_bits bits % 2 ^ k
number_of-drop n k bits h =
    let rest : length (drop n bits) ≡ k = omega (arith, length-drop n bits) in
    let whole = ap number_of_bits (take-append-drop n bits) in
    let split = number_of-append (take n bits) (drop n bits) in
    let small : number_of_bits (drop n bits) < 2 ^ k = let P : ℕ → Type 0 = λ m. number_of_bits (drop n bits) < 2 ^ m in subst P rest (number_of-below (drop n bits)) in
    let at_k : number_of_bits bits ≡ number_of_bits (take n bits) * 2 ^ k + number_of_bits (drop n bits) = sym whole ∙ split ∙ ap (λ m. number_of_bits (take n bits) * 2 ^ m + number_of_bits (drop n bits)) rest in
    sym (ap (λ v. v % 2 ^ k) at_k ∙ mod_low (number_of_bits (take n bits)) k (number_of_bits (drop n bits)) small)

-- ---- bytes

pub length-byte_bits : (fill : Fill) (b : ℕ) → length (byte_bits fill b) ≡ 8
length-byte_bits High b = refl
length-byte_bits Low b = refl

pub length-bits_of : (fill : Fill) (bytes : List ℕ) → length (bits_of fill bytes) ≡ length bytes * 8
length-bits_of fill [] = refl
length-bits_of fill (b ∷ bytes) =
    length-append (byte_bits fill b) (bits_of fill bytes) ∙ omega (arith, length-byte_bits fill b, length-bits_of fill bytes)

past_byte : (fill : Fill) (b : ℕ) (bits : List Bool) → drop 8 (byte_bits fill b ++ bits) ≡ bits
past_byte High b bits = refl
past_byte Low b bits = refl

skip_byte : (fill : Fill) (b n : ℕ) (bits : List Bool) → drop (8 + n) (byte_bits fill b ++ bits) ≡ drop n bits
skip_byte fill b n bits =
    sym (drop-drop n 8 (byte_bits fill b ++ bits)) ∙ ap (drop n) (past_byte fill b bits)

-- whole bytes skipped
pub drop-bits_of : (fill : Fill) (q n : ℕ) (bytes : List ℕ) → drop (8 * q + n) (bits_of fill bytes) ≡ drop n (bits_of fill (drop q bytes))
drop-bits_of fill zero n bytes = ap (λ k. drop k (bits_of fill bytes)) (omega arith)
drop-bits_of fill (suc q) n [] = drop_all (8 * suc q + n) [] (omega arith) ∙ sym (drop_all n [] (omega arith))
drop-bits_of fill (suc q) n (b ∷ bytes) =
    let same : 8 * suc q + n ≡ 8 + (8 * q + n) = omega arith in
    ap (λ k. drop k (byte_bits fill b ++ bits_of fill bytes)) same
    ∙ skip_byte fill b (8 * q + n) (bits_of fill bytes) ∙ drop-bits_of fill q n bytes

-- the bits of four bytes
abbrev pub four_bytes : Fill → ℕ → ℕ → ℕ → ℕ → List Bool
four_bytes fill x y z w = bits_of fill (x ∷ y ∷ z ∷ w ∷ [])

pub bits_of-append : (fill : Fill) (xs ys : List ℕ) → bits_of fill (xs ++ ys) ≡ bits_of fill xs ++ bits_of fill ys
bits_of-append fill [] ys = refl
bits_of-append fill (x ∷ xs) ys = ap (λ bits. byte_bits fill x ++ bits) (bits_of-append fill xs ys) ∙ sym (append_assoc (byte_bits fill x) (bits_of fill xs) (bits_of fill ys))

-- bytes with what comes after them
first_ones : (fill : Fill) (m : ℕ) (xs ys : List ℕ) → m ≤ length xs * 8 → take m (bits_of fill (xs ++ ys)) ≡ take m (bits_of fill xs)
first_ones fill m xs ys h =
    ap (take m) (bits_of-append fill xs ys) ∙ take-append-le m (bits_of fill xs) (bits_of fill ys) (omega (arith, length-bits_of fill xs))

-- of the bits of bytes the first ones stand in the first four bytes, with any bytes past the end
pub first_four : (fill : Fill) (m : ℕ) (bytes : List ℕ) → m ≤ 32 → m ≤ length bytes * 8 → take m (bits_of fill bytes) ≡ take m (four_bytes fill (get_or bytes 0 0) (get_or bytes 1 0) (get_or bytes 2 0) (get_or bytes 3 0))
first_four fill m [] h within = let none : m ≡ 0 = omega arith in ap (λ k. take k []) none ∙ sym (ap (λ k. take k (four_bytes fill 0 0 0 0)) none)
first_four fill m (x ∷ []) h within = sym (first_ones fill m (x ∷ []) (0 ∷ 0 ∷ 0 ∷ []) within)
first_four fill m (x ∷ y ∷ []) h within = sym (first_ones fill m (x ∷ y ∷ []) (0 ∷ 0 ∷ []) within)
first_four fill m (x ∷ y ∷ z ∷ []) h within = sym (first_ones fill m (x ∷ y ∷ z ∷ []) (0 ∷ []) within)
first_four fill m (x ∷ y ∷ z ∷ w ∷ bytes) h within = first_ones fill m (x ∷ y ∷ z ∷ w ∷ []) bytes h

one_byte : (fill : Fill) (b : ℕ) (rest : List ℕ) → number_of_bits (bits_of fill (b ∷ rest)) ≡ number_of_bits (byte_bits fill b) * 2 ^ (length rest * 8) + number_of_bits (bits_of fill rest)
one_byte fill b rest =
    number_of-append (byte_bits fill b) (bits_of fill rest)
    ∙ ap (λ n. number_of_bits (byte_bits fill b) * 2 ^ n + number_of_bits (bits_of fill rest)) (length-bits_of fill rest)

number-four : (fill : Fill) (x y z w : ℕ) → number_of_bits (four_bytes fill x y z w) ≡ number_of_bits (byte_bits fill x) * 16777216 + number_of_bits (byte_bits fill y) * 65536 + number_of_bits (byte_bits fill z) * 256 + number_of_bits (byte_bits fill w)
number-four fill x y z w =
    let four = one_byte fill x (y ∷ z ∷ w ∷ []) in
    let three = one_byte fill y (z ∷ w ∷ []) in
    let two = one_byte fill z (w ∷ []) in
    let one = one_byte fill w [] in
    omega (arith, four, three, two, one)

pub in_the_rest : (bytes : List ℕ) (q i : ℕ) → get_or (drop q bytes) i 0 ≡ get_or bytes (q + i) 0
in_the_rest bytes q i = get_or-drop q bytes i 0

-- the highest r bits shifted out of a word of j + r bits
pub shifted_out : (a r j : ℕ) → a * 2 ^ r % 2 ^ (j + r) ≡ a % 2 ^ j * 2 ^ r
shifted_out a r j =
    mod-pow-add (a * 2 ^ r) j r ∙ ap (λ v. v % 2 ^ j * 2 ^ r + a * 2 ^ r % 2 ^ r) (shl-shr a r)
    ∙ ap (λ v. a % 2 ^ j * 2 ^ r + v) (mul-mod_left a (2 ^ r)) ∙ add-zero (a % 2 ^ j * 2 ^ r)

-- count bits after r ones of some, as a number: the r shifted out at the top, and the rest down to count bits
pub middle : (bits : List Bool) (r count k all : ℕ) → length bits ≡ all → r + count + k ≡ all → number_of_bits (take count (drop r bits)) ≡ number_of_bits bits * 2 ^ r % 2 ^ all / 2 ^ (all - count)
middle bits r count k all h sum =
    let left : length (drop r bits) ≡ count + k = omega (arith, length-drop r bits) in
    let whole : all ≡ count + k + r = omega arith in
    let width : 2 ^ all ≡ 2 ^ (count + k + r) = ap (λ n. 2 ^ n) whole in
    let down : all - count ≡ r + k = omega arith in
    number_of-take count k (drop r bits) left
    ∙ ap (λ v. v / 2 ^ k) (number_of-drop r (count + k) bits (omega arith) ∙ sym (shl-shr (number_of_bits bits % 2 ^ (count + k)) r))
    ∙ shr-shr (number_of_bits bits % 2 ^ (count + k) * 2 ^ r) r k
    ∙ ap (λ n. number_of_bits bits % 2 ^ (count + k) * 2 ^ r / 2 ^ n) (sym down)
    ∙ ap (λ v. v / 2 ^ (all - count)) (sym (ap (λ m. number_of_bits bits * 2 ^ r % m) width ∙ shifted_out (number_of_bits bits) r (count + k)))

-- bits from a place on stand in the four bytes from that place on
in_four : (fill : Fill) (bytes : List ℕ) (q r count : ℕ) → r + count ≤ 32 → 8 * q + r + count ≤ length bytes * 8 → take count (drop (8 * q + r) (bits_of fill bytes)) ≡ take count (drop r (four_bytes fill (get_or bytes (q + 0) 0) (get_or bytes (q + 1) 0) (get_or bytes (q + 2) 0) (get_or bytes (q + 3) 0)))
in_four fill bytes q r count short within =
    let room : r + count ≤ length (drop q bytes) * 8 = omega (arith, length-drop q bytes) in
    let front = first_four fill (r + count) (drop q bytes) short room in
    ap (take count) (drop-bits_of fill q r bytes) ∙ sym (drop-take r count (bits_of fill (drop q bytes))) ∙ ap (drop r) front
    ∙ drop-take r count (four_bytes fill (get_or (drop q bytes) 0 0) (get_or (drop q bytes) 1 0) (get_or (drop q bytes) 2 0) (get_or (drop q bytes) 3 0))
    ∙ rw (in_the_rest bytes q 0, in_the_rest bytes q 1, in_the_rest bytes q 2, in_the_rest bytes q 3) refl

-- the window: the bits from a place on, out of the four bytes from that place on
window_is : (fill : Fill) (bytes : List ℕ) (at q r count k : ℕ) → at ≡ 8 * q + r → r + count + k ≡ 32 → at + count ≤ length (bits_of fill bytes) → word_at fill bytes q * 2 ^ r % 4294967296 / 2 ^ (32 - count) ≡ number_of_bits (take count (drop at (bits_of fill bytes)))
window_is fill bytes at q r count k place sum within =
    let room : 8 * q + r + count ≤ length bytes * 8 = omega (arith, length-bits_of fill bytes) in
    let four = four_bytes fill (get_or bytes q 0) (get_or bytes (q + 1) 0) (get_or bytes (q + 2) 0) (get_or bytes (q + 3) 0) in
    let there : take count (drop (8 * q + r) (bits_of fill bytes)) ≡ take count (drop r four) = in_four fill bytes q r count (omega arith) room ∙ ap (λ n. take count (drop r (four_bytes fill (get_or bytes n 0) (get_or bytes (q + 1) 0) (get_or bytes (q + 2) 0) (get_or bytes (q + 3) 0)))) (add-zero q) in
    sym (middle four r count k 32 (length-bits_of fill (get_or bytes q 0 ∷ get_or bytes (q + 1) 0 ∷ get_or bytes (q + 2) 0 ∷ get_or bytes (q + 3) 0 ∷ [])) sum)
    ∙ sym (ap (λ n. number_of_bits (take count (drop n (bits_of fill bytes)))) place ∙ ap number_of_bits there)

-- ---- the bytes as numbers

abbrev below_in_turn : ℕ → List ℕ
below_in_turn zero = []
below_in_turn (suc n) = n ∷ below_in_turn n

-- what is so of each number below n in turn is so of any
each_below : (f g : ℕ → ℕ) (n : ℕ) → map f (below_in_turn n) ≡ map g (below_in_turn n) → (b : ℕ) → b < n → f b ≡ g b
each_below f g zero h b below = absurd (omega arith)
each_below f g (suc n) h b below =
    let head : f n ≡ g n = cc in
    let rest : map f (below_in_turn n) ≡ map g (below_in_turn n) = cc in
    elim (cases_eq b n) [ inl same ↦ ap f same ∙ head ∙ sym (ap g same) | inr other ↦ each_below f g n rest b (omega arith) ]

high_bytes : map (λ b. number_of_bits (byte_bits High b)) (below_in_turn 256) ≡ map (λ b. b) (below_in_turn 256)
high_bytes = refl

low_bytes : map (λ b. number_of_bits (byte_bits Low b)) (below_in_turn 256) ≡ map (λ b. get_or REVERSED b 0) (below_in_turn 256)
low_bytes = refl

pub number-high : (b : ℕ) → b < 256 → number_of_bits (byte_bits High b) ≡ b
number-high b h = each_below (λ b. number_of_bits (byte_bits High b)) (λ b. b) 256 high_bytes b h

pub number-low : (b : ℕ) → b < 256 → number_of_bits (byte_bits Low b) ≡ get_or REVERSED b 0
number-low b h = each_below (λ b. number_of_bits (byte_bits Low b)) (λ b. get_or REVERSED b 0) 256 low_bytes b h

byte_below : (fill : Fill) (b : ℕ) → number_of_bits (byte_bits fill b) < 256
byte_below fill b =
    let P : ℕ → Type 0 = λ n. number_of_bits (byte_bits fill b) < 2 ^ n in
    subst P (length-byte_bits fill b) (number_of-below (byte_bits fill b))

-- four bytes in a word
word_of : (x y z w : ℕ) → x < 256 → y < 256 → z < 256 → w < 256 → bit_or (bit_or (bit_or (x * 16777216 % 4294967296) (y * 65536 % 4294967296)) (z * 256 % 4294967296)) w ≡ x * 16777216 + y * 65536 + z * 256 + w
word_of x y z w hx hy hz hw =
    let wx : x * 16777216 % 4294967296 ≡ x * 16777216 = omega arith in
    let wy : y * 65536 % 4294967296 ≡ y * 65536 = omega arith in
    let wz : z * 256 % 4294967296 ≡ z * 256 = omega arith in
    let two : bit_or (x * 16777216) (y * 65536) ≡ x * 16777216 + y * 65536 = or_shifted x 24 (y * 65536) (omega arith) in
    let as_three : x * 16777216 + y * 65536 ≡ (x * 256 + y) * 65536 = omega arith in
    let three : bit_or ((x * 256 + y) * 65536) (z * 256) ≡ (x * 256 + y) * 65536 + z * 256 = or_shifted (x * 256 + y) 16 (z * 256) (omega arith) in
    let as_four : (x * 256 + y) * 65536 + z * 256 ≡ ((x * 256 + y) * 256 + z) * 256 = omega arith in
    let four : bit_or (((x * 256 + y) * 256 + z) * 256) w ≡ ((x * 256 + y) * 256 + z) * 256 + w = or_shifted ((x * 256 + y) * 256 + z) 8 w hw in
    rw (wx, wy, wz, two, as_three, three, as_four) (four ∙ omega arith)

-- the word that the code makes of four bytes
pub word_is : (fill : Fill) (bytes : List ℕ) (first x y z w : ℕ) → x ≡ number_of_bits (byte_bits fill (get_or bytes first 0)) → y ≡ number_of_bits (byte_bits fill (get_or bytes (first + 1) 0)) → z ≡ number_of_bits (byte_bits fill (get_or bytes (first + 2) 0)) → w ≡ number_of_bits (byte_bits fill (get_or bytes (first + 3) 0)) → bit_or (bit_or (bit_or (x * 16777216 % 4294967296) (y * 65536 % 4294967296)) (z * 256 % 4294967296)) w ≡ word_at fill bytes first
word_is fill bytes first x y z w is_x is_y is_z is_w =
    let below : (v b : ℕ) → v ≡ number_of_bits (byte_bits fill b) → v < 256 = λ v b e. let P : ℕ → Type 0 = λ n. n < 256 in subst P (sym e) (byte_below fill b) in
    word_of x y z w (below x _ is_x) (below y _ is_y) (below z _ is_z) (below w _ is_w)
    ∙ sym (number-four fill (get_or bytes first 0) (get_or bytes (first + 1) 0) (get_or bytes (first + 2) 0) (get_or bytes (first + 3) 0) ∙ rw (← is_x, ← is_y, ← is_z, ← is_w) refl)

-- the code's window is the number of the bits
pub window_of : (fill : Fill) (bytes : List ℕ) (at count word : ℕ) → count ≤ 16 → at + count ≤ length (bits_of fill bytes) → word ≡ word_at fill bytes (at / 8) → word * 2 ^ (at % 8) % 4294967296 / 2 ^ (32 - count) ≡ number_of_bits (take count (drop at (bits_of fill bytes)))
window_of fill bytes at count word short within is =
    ap (λ v. v * 2 ^ (at % 8) % 4294967296 / 2 ^ (32 - count)) is
    ∙ window_is fill bytes at (at / 8) (at % 8) count (32 - at % 8 - count) (omega arith) (omega arith) within

-- ---- one bit

high_bit : (b r : ℕ) → r < 8 → get_or (byte_bits High b) r false ≡ bit b (7 - r)
high_bit b zero h = refl
high_bit b (suc zero) h = refl
high_bit b (suc (suc zero)) h = refl
high_bit b (suc (suc (suc zero))) h = refl
high_bit b (suc (suc (suc (suc zero)))) h = refl
high_bit b (suc (suc (suc (suc (suc zero))))) h = refl
high_bit b (suc (suc (suc (suc (suc (suc zero)))))) h = refl
high_bit b (suc (suc (suc (suc (suc (suc (suc zero))))))) h = refl
high_bit b (suc (suc (suc (suc (suc (suc (suc (suc r)))))))) h = absurd (omega arith)

low_bit : (b r : ℕ) → r < 8 → get_or (byte_bits Low b) r false ≡ bit b r
low_bit b zero h = refl
low_bit b (suc zero) h = refl
low_bit b (suc (suc zero)) h = refl
low_bit b (suc (suc (suc zero))) h = refl
low_bit b (suc (suc (suc (suc zero)))) h = refl
low_bit b (suc (suc (suc (suc (suc zero))))) h = refl
low_bit b (suc (suc (suc (suc (suc (suc zero)))))) h = refl
low_bit b (suc (suc (suc (suc (suc (suc (suc zero))))))) h = refl
low_bit b (suc (suc (suc (suc (suc (suc (suc (suc r)))))))) h = absurd (omega arith)

in_byte : (fill : Fill) (bytes : List ℕ) (q r : ℕ) → q < length bytes → r < 8 → get_or (bits_of fill bytes) (8 * q + r) false ≡ get_or (byte_bits fill (get_or bytes q 0)) r false
in_byte fill bytes q r within h =
    sym (get_or-drop (8 * q) (bits_of fill bytes) r false) ∙ ap (λ n. get_or (drop n (bits_of fill bytes)) r false) (sym (add-zero (8 * q)))
    ∙ ap (λ bits. get_or bits r false) (drop-bits_of fill q 0 bytes)
    ∙ ap (λ ds. get_or (bits_of fill ds) r false) (drop_more bytes q 0 within)
    ∙ get_or_append_left (byte_bits fill (get_or bytes q 0)) (bits_of fill (drop (q + 1) bytes)) false r (omega (arith, length-byte_bits fill (get_or bytes q 0)))

pub bit_is : (fill : Fill) (bytes : List ℕ) (at : ℕ) → at < length (bits_of fill bytes) → slice_get (bits_of fill bytes) at ≡ Some (get_or (byte_bits fill (get_or bytes (at / 8) 0)) (at % 8) false)
bit_is fill bytes at within =
    let place : at ≡ 8 * (at / 8) + at % 8 = omega arith in
    slice_get-get_or (bits_of fill bytes) at false within
    ∙ ap (λ n. Some (get_or (bits_of fill bytes) n false)) place
    ∙ ap Some (in_byte fill bytes (at / 8) (at % 8) (omega (arith, length-bits_of fill bytes)) (omega arith))

tested : (b k : ℕ) → nat_eq (bit_and (b / 2 ^ k) 1) 1 ≡ bit b k
tested b k = ap (λ v. nat_eq v 1) (shr_and_one b k)

pub bit_is-high : (bytes : List ℕ) (at : ℕ) → at < length (bits_of High bytes) → slice_get (bits_of High bytes) at ≡ Some (nat_eq (bit_and (get_or bytes (at / 8) 0 / 2 ^ (7 - at % 8)) 1) 1)
bit_is-high bytes at within =
    bit_is High bytes at within ∙ ap Some (high_bit (get_or bytes (at / 8) 0) (at % 8) (omega arith) ∙ sym (tested (get_or bytes (at / 8) 0) (7 - at % 8)))

pub bit_is-low : (bytes : List ℕ) (at : ℕ) → at < length (bits_of Low bytes) → slice_get (bits_of Low bytes) at ≡ Some (nat_eq (bit_and (get_or bytes (at / 8) 0 / 2 ^ (at % 8)) 1) 1)
bit_is-low bytes at within =
    bit_is Low bytes at within ∙ ap Some (low_bit (get_or bytes (at / 8) 0) (at % 8) (omega arith) ∙ sym (tested (get_or bytes (at / 8) 0) (at % 8)))

pub bit_when_high : (fill : Fill) (bytes : List ℕ) (at : ℕ) → fill ≡ High → at < length (bits_of fill bytes) → slice_get (bits_of fill bytes) at ≡ Some (nat_eq (bit_and (get_or bytes (at / 8) 0 / 2 ^ (7 - at % 8)) 1) 1)
bit_when_high fill bytes at is =
    let P : Fill → Type 0 = λ f. at < length (bits_of f bytes) → slice_get (bits_of f bytes) at ≡ Some (nat_eq (bit_and (get_or bytes (at / 8) 0 / 2 ^ (7 - at % 8)) 1) 1) in
    subst P (sym is) (bit_is-high bytes at)

pub bit_when_low : (fill : Fill) (bytes : List ℕ) (at : ℕ) → fill ≡ Low → at < length (bits_of fill bytes) → slice_get (bits_of fill bytes) at ≡ Some (nat_eq (bit_and (get_or bytes (at / 8) 0 / 2 ^ (at % 8)) 1) 1)
bit_when_low fill bytes at is =
    let P : Fill → Type 0 = λ f. at < length (bits_of f bytes) → slice_get (bits_of f bytes) at ≡ Some (nat_eq (bit_and (get_or bytes (at / 8) 0 / 2 ^ (at % 8)) 1) 1) in
    subst P (sym is) (bit_is-low bytes at)

pub byte_when_high : (fill : Fill) (b x : ℕ) → fill ≡ High → b < 256 → x ≡ b → number_of_bits (byte_bits fill x) ≡ b
byte_when_high fill b x is h same =
    let P : Fill → Type 0 = λ f. number_of_bits (byte_bits f b) ≡ b in
    ap (λ v. number_of_bits (byte_bits fill v)) same ∙ subst P (sym is) (number-high b h)

pub byte_when_low : (fill : Fill) (b x : ℕ) → fill ≡ Low → b < 256 → x ≡ b → number_of_bits (byte_bits fill x) ≡ get_or REVERSED b 0
byte_when_low fill b x is h same =
    let P : Fill → Type 0 = λ f. number_of_bits (byte_bits f b) ≡ get_or REVERSED b 0 in
    ap (λ v. number_of_bits (byte_bits fill v)) same ∙ subst P (sym is) (number-low b h)

pub word_when_high : (fill : Fill) (bytes : List ℕ) (first : ℕ) → fill ≡ High → word_at High bytes first ≡ word_at fill bytes first
word_when_high fill bytes first is = ap (λ f. word_at f bytes first) (sym is)
