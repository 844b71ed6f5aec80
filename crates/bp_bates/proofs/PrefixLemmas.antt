-- A text of allowed characters is its own UTF-8, so a good text can be told by its bytes.
use Rattle.std.proofs.Common.{◌≡◌, ℕ, ◌<◌, ◌≤◌, Bool, true, false, ◌&&◌, List, [], ◌∷◌, ◌++◌, length, get_or, refl, sym, ap, arith, ◌∙◌, encode_utf8_all, encode_utf8, append-nil, inl, inr, ◌-◌}
use Rattle.std.specs.List.{list_all}
use Rattle.std.proofs.lemmas.Bool.{cases_lt, cases_Bool, and_parts, leb-true, not-true}
use Rattle.std.proofs.lemmas.Bool.Decides.{nat_tests}
use Rattle.std.proofs.lemmas.Str.{encode_ascii, inside_one, len_utf8_bounds, length-encode}
use Rattle.std.proofs.lemmas.List.Folds.{list_all-append}
use Rattle.bp_bates.specs.Prefixes.{is_allowed, is_digit, is_good_text, is_good_prefix}

pub below_128 : (c : ℕ) → is_allowed c ≡ true → c < 128
below_128 c h = grind (arith, nat_tests)

not_allowed : (c : ℕ) → 128 ≤ c → is_allowed c ≡ false
not_allowed c h = grind (arith, nat_tests)

first_byte : (c b : ℕ) (bytes : List ℕ) → 128 ≤ c → b ∷ bytes ≡ encode_utf8 c → 128 ≤ b
first_byte c b bytes big e =
    elim (cases_lt b 128) [
      | inl small ↦ absurd (omega (arith, inside_one c [] (b ∷ bytes) 0 (e ∙ sym (append-nil (encode_utf8 c))) (omega (arith, len_utf8_bounds c, length-encode c)) small))
      | inr large ↦ large
    ]

outside : (c : ℕ) (bytes : List ℕ) → 128 ≤ c → bytes ≡ encode_utf8 c → list_all is_allowed bytes ≡ false
outside c [] big e = absurd (omega (arith, len_utf8_bounds c, length-encode c, ap length e))
outside c (b ∷ bytes) big e = ap (λ t. t && list_all is_allowed bytes) (not_allowed b (first_byte c b bytes big e))

and_true : (b : Bool) → (b && true) ≡ b
and_true true = refl
and_true false = refl

one_character : (c : ℕ) → list_all is_allowed (encode_utf8 c) ≡ is_allowed c
one_character c =
    elim (cases_lt c 128) [
      | inl small ↦ ap (list_all is_allowed) (encode_ascii c small) ∙ and_true (is_allowed c)
      | inr big ↦ outside c (encode_utf8 c) big refl ∙ sym (not_allowed c big)
    ]

-- the characters of a text are allowed exactly where its bytes are
pub allowed_bytes : (cs : List ℕ) → list_all is_allowed (encode_utf8_all cs) ≡ list_all is_allowed cs
allowed_bytes [] = refl
allowed_bytes (c ∷ cs) =
    list_all-append is_allowed (encode_utf8 c) (encode_utf8_all cs)
    ∙ ap (λ t. t && list_all is_allowed (encode_utf8_all cs)) (one_character c) ∙ ap (λ t. is_allowed c && t) (allowed_bytes cs)

-- allowed characters are their own UTF-8
pub allowed_itself : (cs : List ℕ) → list_all is_allowed cs ≡ true → encode_utf8_all cs ≡ cs
allowed_itself [] h = refl
allowed_itself (c ∷ cs) h =
    let parts = and_parts (is_allowed c) (list_all is_allowed cs) h in
    ap (λ bytes. bytes ++ encode_utf8_all cs) (encode_ascii c (below_128 c parts.0)) ∙ ap (λ bytes. c ∷ bytes) (allowed_itself cs parts.1)

not_good : (cs : List ℕ) → list_all is_allowed cs ≡ false → is_good_text cs ≡ false
not_good cs h = rw h refl

-- a text is good exactly where its bytes are
pub good_bytes : (cs : List ℕ) → is_good_text (encode_utf8_all cs) ≡ is_good_text cs
good_bytes cs =
    elim (cases_Bool (list_all is_allowed cs)) [
      | inl all ↦ ap is_good_text (allowed_itself cs all)
      | inr some ↦ not_good (encode_utf8_all cs) (allowed_bytes cs ∙ some) ∙ sym (not_good cs some)
    ]

-- what a good prefix is
pub record IsGood (text : List ℕ) (width : ℕ) : Type 0 where
  pub wide : 4 ≤ width
  pub narrow : width ≤ 10
  pub allowed : list_all is_allowed text ≡ true
  pub some : 1 ≤ length text
  pub short : length text ≤ 12
  pub last : is_digit (get_or text (length text - 1) 0) ≡ false

pub IsGood-from_test : (text : List ℕ) (width : ℕ) → is_good_prefix text width ≡ true → IsGood text width
IsGood-from_test text width h =
    let a = and_parts _ _ h in
    let b = and_parts _ _ a.0 in
    let last = and_parts _ _ a.1 in
    let first = and_parts _ _ last.0 in
    let short = and_parts _ _ first.0 in
    let some = and_parts _ _ short.0 in
    record {
      wide = leb-true _ _ b.0;
      narrow = leb-true _ _ b.1;
      allowed = some.0;
      some = leb-true _ _ some.1;
      short = leb-true _ _ short.1;
      last = not-true _ last.1;
    }
