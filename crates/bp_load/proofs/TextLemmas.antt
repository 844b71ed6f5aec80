-- Tests of the characters of a text against tests of its bytes.
use Rattle.std.proofs.Common.{◌≡◌, ℕ, ◌<◌, ◌≤◌, Bool, true, false, ◌&&◌, List, [], ◌∷◌, ◌++◌, length, get_or, refl, sym, ap, arith, ◌∙◌, encode_utf8_all, encode_utf8, append-nil, inl, inr}
use Rattle.std.specs.List.{list_all}
use Rattle.std.proofs.lemmas.Bool.{cases_lt, and_parts, and_from}
use Rattle.std.proofs.lemmas.Str.{encode_ascii, inside_one, len_utf8_bounds, length-encode}
use Rattle.std.proofs.lemmas.List.Folds.{list_all-append}
use Rattle.std.proofs.lemmas.List.Sums.{list_all-from_AllPass}
use Rattle.std.proofs.lemmas.Grind.{get_or_default_zero}

-- each byte of a character outside ASCII is outside ASCII
large_byte : (c k : ℕ) → 128 ≤ c → k < length (encode_utf8 c) → 128 ≤ get_or (encode_utf8 c) k 0
large_byte c k large fits =
    elim (cases_lt (get_or (encode_utf8 c) k 0) 128) [
      | inl small ↦ absurd (omega (arith, inside_one c [] (encode_utf8 c) k (sym (append-nil (encode_utf8 c))) fits small))
      | inr more ↦ more
    ]

large_bytes : (p : ℕ → Bool) → ((b : ℕ) → 128 ≤ b → p b ≡ true) → (c : ℕ) → 128 ≤ c → list_all p (encode_utf8 c) ≡ true
large_bytes p passes c large =
    list_all-from_AllPass p (encode_utf8 c) (λ k d fits. ap p (get_or_default_zero (encode_utf8 c) k d fits) ∙ passes (get_or (encode_utf8 c) k 0) (large_byte c k large fits))

large_first : (p : ℕ → Bool) → ((b : ℕ) → 128 ≤ b → p b ≡ false) → (c : ℕ) (bytes : List ℕ) → 128 ≤ c → bytes ≡ encode_utf8 c → list_all p bytes ≡ false
large_first p fails c [] large e = absurd (omega (arith, len_utf8_bounds c, length-encode c, ap length e))
large_first p fails c (b ∷ bytes) large e =
    let first : 128 ≤ b = omega (arith, large_byte c 0 large (omega (arith, len_utf8_bounds c, length-encode c)), ap (λ xs. get_or xs 0 0) e) in
    ap (λ t. t && list_all p bytes) (fails b first)

and_true : (b : Bool) → (b && true) ≡ b
and_true true = refl
and_true false = refl

each_byte : (p : ℕ → Bool) → ((c : ℕ) → list_all p (encode_utf8 c) ≡ p c) → (cs : List ℕ) → list_all p (encode_utf8_all cs) ≡ list_all p cs
each_byte p one [] = refl
each_byte p one (c ∷ cs) =
    list_all-append p (encode_utf8 c) (encode_utf8_all cs)
    ∙ ap (λ t. t && list_all p (encode_utf8_all cs)) (one c) ∙ ap (λ t. p c && t) (each_byte p one cs)

one_ascii : (p : ℕ → Bool) (c : ℕ) → c < 128 → list_all p (encode_utf8 c) ≡ p c
one_ascii p c small = ap (list_all p) (encode_ascii c small) ∙ and_true (p c)

-- a test that each character outside ASCII passes
pub passing_bytes : (p : ℕ → Bool) → ((b : ℕ) → 128 ≤ b → p b ≡ true) → (cs : List ℕ) → list_all p (encode_utf8_all cs) ≡ list_all p cs
passing_bytes p passes cs = each_byte p (λ c.
    elim (cases_lt c 128) [
      | inl small ↦ one_ascii p c small
      | inr large ↦ large_bytes p passes c large ∙ sym (passes c large)
    ]) cs

-- a test that no character outside ASCII passes
pub failing_bytes : (p : ℕ → Bool) → ((b : ℕ) → 128 ≤ b → p b ≡ false) → (cs : List ℕ) → list_all p (encode_utf8_all cs) ≡ list_all p cs
failing_bytes p fails cs = each_byte p (λ c.
    elim (cases_lt c 128) [
      | inl small ↦ one_ascii p c small
      | inr large ↦ large_first p fails c (encode_utf8 c) large refl ∙ sym (fails c large)
    ]) cs

-- characters that pass such a test are their own UTF-8
pub own_bytes : (p : ℕ → Bool) → ((b : ℕ) → 128 ≤ b → p b ≡ false) → (cs : List ℕ) → list_all p cs ≡ true → encode_utf8_all cs ≡ cs
own_bytes p fails [] h = refl
own_bytes p fails (c ∷ cs) h =
    let parts = and_parts (p c) (list_all p cs) h in
    elim (cases_lt c 128) [
      | inl small ↦ ap (λ bytes. bytes ++ encode_utf8_all cs) (encode_ascii c small) ∙ ap (λ bytes. c ∷ bytes) (own_bytes p fails cs parts.1)
      | inr large ↦ let e : true ≡ false = sym parts.0 ∙ fails c large in cc
    ]

-- a weaker test
pub weaker : {X : Type 0} (p q : X → Bool) → ((x : X) → p x ≡ true → q x ≡ true) → (xs : List X) → list_all p xs ≡ true → list_all q xs ≡ true
weaker p q from [] h = refl
weaker p q from (x ∷ xs) h =
    let parts = and_parts (p x) (list_all p xs) h in
    and_from (q x) (list_all q xs) (from x parts.0) (weaker p q from xs parts.1)
