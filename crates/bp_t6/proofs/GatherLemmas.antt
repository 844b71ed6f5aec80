-- Bits gathered into bytes.
use Rattle.std.proofs.Common.{ℕ, ◌+◌, ◌-◌, ◌*◌, ◌/◌, ◌%◌, ◌^◌, ◌<◌, ◌≤◌, ◌≡◌, List, ◌++◌, ap, sym, ◌∙◌, subst, arith, bit_and, bit_or, append_assoc}
use Rattle.std.specs.Int.{to_be_bytes, w32}
use Rattle.std.proofs.Math.Nat.{mod-lt, mul_comm}
use Rattle.std.proofs.lemmas.Nat.{pow-add, pow_pos, shl_whole, or_shifted, and_mask, one_shl, mul-add-lt, div_below}
use Rattle.bp_codes.specs.declared.span.Fill.TheVariants.{High}
use Rattle.bp_codes.specs.Bits.{byte_bits, bits_of, low_bits}
use Rattle.bp_rows.proofs.WordLemmas.{low_pixels-append, pixels_in-append, low_pixels-mod, low_pixels-split, one_byte}
use Rattle.bp_t6.specs.Gathered.{gathered, IsGathered}

-- ---- bits are what bp_rows calls pixels

pub low_bits-append : (n m a b : ℕ) → b < 2 ^ m → low_bits (n + m) (a * 2 ^ m + b) ≡ low_bits n a ++ low_bits m b
low_bits-append = low_pixels-append

pub bits_of-append : (xs ys : List ℕ) → bits_of High (xs ++ ys) ≡ bits_of High xs ++ bits_of High ys
bits_of-append = pixels_in-append

pub low_bits-mod : (n m w : ℕ) → n ≤ m → low_bits n (w % 2 ^ m) ≡ low_bits n w
low_bits-mod = low_pixels-mod

pub low_bits-split : (n m w : ℕ) → low_bits (n + m) w ≡ low_bits n (w / 2 ^ m) ++ low_bits m (w % 2 ^ m)
low_bits-split = low_pixels-split

pub one_byte_of : (m w : ℕ) → low_bits (8 + m) w ≡ byte_bits High (w / 2 ^ m % 256) ++ low_bits m w
one_byte_of = one_byte

-- the bits of a number of 32 bits, in four bytes
pub bits_of_word : (word : ℕ) → bits_of High (to_be_bytes w32 word) ≡ low_bits 32 word
bits_of_word word =
    sym (one_byte_of 24 word ∙ ap (λ bs. byte_bits High (word / 2 ^ 24 % 256) ++ bs) (one_byte_of 16 word
    ∙ ap (λ bs. byte_bits High (word / 2 ^ 16 % 256) ++ bs) (one_byte_of 8 word
    ∙ ap (λ bs. byte_bits High (word / 2 ^ 8 % 256) ++ bs) (last word))))
  where
    last : (w : ℕ) → low_bits 8 w ≡ byte_bits High (w % 256)
    last w = sym (low_bits-mod 8 8 w (omega arith))

-- ---- a code put

pub held_is : (held fill bits len : ℕ) → IsGathered held fill → len ≤ 13 → bits < 2 ^ len → bit_or (held * 2 ^ len % 18446744073709551616) bits ≡ held * 2 ^ len + bits
held_is held fill bits len kept short fits =
    ap (λ v. bit_or v bits) (shl_whole held fill len 64 kept.small (omega (arith, kept.few))) ∙ or_shifted held len bits fits

pub held_below : (held fill bits len : ℕ) → IsGathered held fill → bits < 2 ^ len → held * 2 ^ len + bits < 2 ^ (fill + len)
held_below held fill bits len kept fits =
    let h = mul-add-lt held (2 ^ len) bits (2 ^ fill) kept.small fits in
    subst (λ (n : ℕ). held * 2 ^ len + bits < n) (mul_comm (2 ^ len) (2 ^ fill) ∙ sym (pow-add 2 fill len)) h

pub put_held : (bytes : List ℕ) (held fill bits len : ℕ) → IsGathered held fill → bits < 2 ^ len → gathered bytes (held * 2 ^ len + bits) (fill + len) ≡ gathered bytes held fill ++ low_bits len bits
put_held bytes held fill bits len kept fits =
    ap (λ bs. bits_of High bytes ++ bs) (low_bits-append fill len held bits fits)
    ∙ sym (append_assoc (bits_of High bytes) (low_bits fill held) (low_bits len bits))

-- a word of 32 bits goes to the bytes
pub word_out : (bytes : List ℕ) (held fill rest : ℕ) → fill ≡ 32 + rest → gathered (bytes ++ to_be_bytes w32 (held / 2 ^ rest)) (held % 2 ^ rest) rest ≡ gathered bytes held fill
word_out bytes held fill rest size =
    ap (λ bs. bs ++ low_bits rest (held % 2 ^ rest)) (bits_of-append bytes (to_be_bytes w32 (held / 2 ^ rest)) ∙ ap (λ bs. bits_of High bytes ++ bs) (bits_of_word (held / 2 ^ rest)))
    ∙ append_assoc (bits_of High bytes) (low_bits 32 (held / 2 ^ rest)) (low_bits rest (held % 2 ^ rest))
    ∙ ap (λ bs. bits_of High bytes ++ bs) (sym (low_bits-split 32 rest held) ∙ ap (λ n. low_bits n held) (sym size))

pub word_fits : (held fill rest : ℕ) → fill ≡ 32 + rest → held < 2 ^ fill → held / 2 ^ rest < 2 ^ 32
word_fits held fill rest size small =
    div_below held (2 ^ rest) (2 ^ 32) (pow_pos rest) (subst (λ (n : ℕ). held < n) (ap (λ n. 2 ^ n) size ∙ pow-add 2 32 rest) small)

pub mask_is : (held rest : ℕ) → rest < 32 → bit_and held (1 * 2 ^ rest % 18446744073709551616 - 1) ≡ held % 2 ^ rest
mask_is held rest low =
    ap (λ v. bit_and held (v - 1)) (one_shl rest 64 (omega arith)) ∙ and_mask held rest

pub rest_kept : (held rest : ℕ) → rest < 32 → IsGathered (held % 2 ^ rest) rest
rest_kept held rest low = record { few = low; small = mod-lt held (pow_pos rest) }
