-- Codes as they stand in print.
use Rattle.std.proofs.Common.{ℕ, ◌+◌, ◌*◌, ◌^◌, ◌<◌, ◌≤◌, ◌≡◌, ◌==◌, Bool, true, false, List, [], ◌∷◌, length, take, get_or, if◌then◌else◌, ap, sym, ◌∙◌, subst, arith}
use Rattle.std.proofs.Math.Nat.{pow-le-pow_right}
use Rattle.std.proofs.lemmas.List.{take_more, map-append, length-map, length-take-le}
use Rattle.bp_codes.specs.Bits.{number_of_bits}
use Rattle.bp_codes.specs.CodeLists.{bits_in_print}
use Rattle.bp_codes.proofs.BitListLemmas.{number_of-append, number_of-below}

last_digit : (b : Bool) (n : ℕ) → n * 2 ^ 1 + number_of_bits (b ∷ []) ≡ n * 2 + (if b then 1 else 0)
last_digit true n = omega arith
last_digit false n = omega arith

-- one character more
pub next_digit : (items : List ℕ) (i n : ℕ) → i < length items → n ≡ number_of_bits (bits_in_print (take i items)) → number_of_bits (bits_in_print (take (i + 1) items)) ≡ n * 2 + (if get_or items i 0 == 49 then 1 else 0)
next_digit items i n within is =
    ap (λ xs. number_of_bits (bits_in_print xs)) (take_more items i 0 within)
    ∙ ap number_of_bits (map-append (λ c. c == 49) (take i items) (get_or items i 0 ∷ []))
    ∙ number_of-append (bits_in_print (take i items)) ((get_or items i 0 == 49) ∷ [])
    ∙ ap (λ m. m * 2 ^ 1 + number_of_bits ((get_or items i 0 == 49) ∷ [])) (sym is) ∙ last_digit (get_or items i 0 == 49) n

-- of at most 13 characters the first ones are a small number
pub small_so_far : (items : List ℕ) (i n : ℕ) → i < length items → length items ≤ 13 → n ≡ number_of_bits (bits_in_print (take i items)) → n < 4096
small_so_far items i n within short is =
    let count : length (bits_in_print (take i items)) ≡ i = length-map (take i items) (λ c. c == 49) ∙ length-take-le i items (omega arith) in
    let below : number_of_bits (bits_in_print (take i items)) < 2 ^ i = let P : ℕ → Type 0 = λ k. number_of_bits (bits_in_print (take i items)) < 2 ^ k in subst P count (number_of-below (bits_in_print (take i items))) in
    let most : 2 ^ i ≤ 2 ^ 12 = pow-le-pow_right {n = 2} (omega arith) {i = i} {j = 12} (omega arith) in
    omega (arith, below, most, is)

not_one : (x : ℕ) → (x ≡ 49 → ⊥) → (x == 49) ≡ false
not_one x h = grind arith

pub next_one : (items : List ℕ) (i n : ℕ) → i < length items → n ≡ number_of_bits (bits_in_print (take i items)) → get_or items i 0 ≡ 49 → n * 2 + 1 ≡ number_of_bits (bits_in_print (take (i + 1) items))
next_one items i n within is one =
    sym (next_digit items i n within is ∙ ap (λ x. n * 2 + (if x == 49 then 1 else 0)) one)

pub next_zero : (items : List ℕ) (i n : ℕ) → i < length items → n ≡ number_of_bits (bits_in_print (take i items)) → (get_or items i 0 ≡ 49 → ⊥) → n * 2 ≡ number_of_bits (bits_in_print (take (i + 1) items))
next_zero items i n within is other =
    sym (next_digit items i n within is ∙ ap (λ b. n * 2 + (if b then 1 else 0)) (not_one (get_or items i 0) other) ∙ omega arith)
