-- A label, as a prefix and a number write it, is read as what it was made of.
use Rattle.std.proofs.Common.{◌≡◌, ℕ, zero, suc, ◌+◌, ◌-◌, ◌*◌, ◌/◌, ◌%◌, ◌^◌, ◌<◌, ◌≤◌, ◌&&◌, true, cond, Some, None, List, [], ◌∷◌, ◌++◌, length, take, get_or, nat_le, append_assoc, encode_utf8_all, length-append, refl, sym, ap, ◌∙◌, arith}
use Rattle.std.specs.Char.{digit_value, is_ascii_digit}
use Rattle.std.specs.List.{list_all}
use Rattle.std.specs.Str.Parse.{digits_value}
use Rattle.std.proofs.Math.Nat.{pow-suc}
use Rattle.std.proofs.lemmas.Bool.{and_from, le-leb}
use Rattle.std.proofs.lemmas.Bool.Decides.{nat_tests}
use Rattle.std.proofs.lemmas.Int.Digits.{digits_value_push}
use Rattle.std.proofs.lemmas.List.{take_all, take_at, take_more}
use Rattle.std.proofs.lemmas.List.Folds.{list_all-append}
use Rattle.std.proofs.lemmas.Str.{digit_value_digit}
use Rattle.bp_load.proofs.TextLemmas.{weaker}
use Rattle.bp_bates.specs.Labels.{bates_label, padded}
use Rattle.bp_bates.specs.Prefixes.{is_allowed, is_good_prefix}
use Rattle.bp_bates.proofs.LabelLemmas.{length-padded}
use Rattle.bp_bates.proofs.PrefixLemmas.{IsGood-from_test, allowed_itself}
use Rattle.bp_check.specs.Labels.{Label, end_digits, label_with}
use Rattle.bp_check.specs.Labels as checked
use Rattle.bp_check.specs.declared.labels.TheConstants.{MOST_LABEL_DIGITS}
use Rattle.bp_check.proofs.LabelLemmas.{end_after}

-- ---- digits

digit_one : (n : ℕ) → n < 10 → is_ascii_digit (48 + n) ≡ true
digit_one n l = grind (arith, nat_tests)

pub digits_all : (width n : ℕ) → list_all is_ascii_digit (padded width n) ≡ true
digits_all zero n = refl
digits_all (suc width) n =
    list_all-append is_ascii_digit (padded width (n / 10)) ((48 + n % 10) ∷ [])
    ∙ and_from _ _ (digits_all width (n / 10)) (and_from _ _ (digit_one (n % 10) (omega arith)) refl)

value_one : (n : ℕ) → n < 10 → digit_value (48 + n) ≡ n
value_one n l = omega (arith, digit_value_digit (48 + n) (omega arith, omega arith))

-- the digits are the number's
pub value_back : (width n : ℕ) → n < 10 ^ width → digits_value 10 (padded width n) ≡ n
value_back zero n small = omega arith
value_back (suc width) n small =
    let wider : 10 ^ suc width ≡ 10 ^ width * 10 = pow-suc 10 width in
    let front : digits_value 10 (padded width (n / 10)) ≡ n / 10 = value_back width (n / 10) (omega arith) in
    let last : digit_value (48 + n % 10) ≡ n % 10 = value_one (n % 10) (omega arith) in
    digits_value_push 10 (padded width (n / 10)) (48 + n % 10) ∙ omega (arith, front, last)

-- ---- a label

digit_allowed : (c : ℕ) → is_ascii_digit c ≡ true → is_allowed c ≡ true
digit_allowed c is = grind (arith, nat_tests)

pub all_allowed : (text : List ℕ) (width n : ℕ)
    → is_good_prefix text width ≡ true
    → list_all is_allowed (bates_label text width n) ≡ true
all_allowed text width n good =
    list_all-append is_allowed text (padded width n)
    ∙ and_from _ _ (IsGood-from_test text width good).allowed
    (weaker is_ascii_digit is_allowed digit_allowed (padded width n) (digits_all width n))

-- a label is ASCII
pub label_bytes : (text : List ℕ) (width n : ℕ)
    → is_good_prefix text width ≡ true
    → encode_utf8_all (bates_label text width n) ≡ bates_label text width n
label_bytes text width n good = allowed_itself (bates_label text width n) (all_allowed text width n good)

-- a text and its last character
last_apart : (text : List ℕ)
    → 1 ≤ length text
    → text ≡ take (length text - 1) text ++ get_or text (length text - 1) 0 ∷ []
last_apart text some =
    let long : length text - 1 + 1 ≡ length text = omega arith in
    sym (take_all (length text) text (omega arith)) ∙ ap (λ n. take n text) (sym long) ∙ take_more text (length text - 1) 0 (omega arith)

digits_end : (text : List ℕ) (width n : ℕ)
    → is_good_prefix text width ≡ true
    → end_digits (bates_label text width n) ≡ padded width n
digits_end text width n good =
    let is = IsGood-from_test text width good in
    let front = take (length text - 1) text in
    let c = get_or text (length text - 1) 0 in
    ap (λ t. end_digits (t ++ padded width n)) (last_apart text is.some)
    ∙ ap end_digits (append_assoc front (c ∷ []) (padded width n))
    ∙ end_after front c (padded width n) is.last (digits_all width n)

with_digits : (text : List ℕ) (width n : ℕ)
    → n < 10 ^ width
    → label_with (bates_label text width n) (padded width n) ≡ record { head = text; width = width; number = n }
with_digits text width n small =
    let whole = bates_label text width n in
    let digits = padded width n in
    let wide : length digits ≡ width = length-padded width n in
    let head : take (length whole - length digits) whole ≡ text =
    take_at text digits (length whole - length digits) (omega (arith, length-append text digits)) in
    ap (λ h. record { head = h; width = length digits; number = digits_value 10 digits }) head
    ∙ ap (λ w. record { head = text; width = w; number = digits_value 10 digits }) wide
    ∙ ap (λ k. record { head = text; width = width; number = k }) (value_back width n small)

-- what is read of a label
pub label_back : (text : List ℕ) (width n : ℕ)
    → is_good_prefix text width ≡ true
    → n < 10 ^ width
    → checked.label_of (encode_utf8_all (bates_label text width n)) ≡ Some (record { head = text; width = width; number = n })
label_back text width n good small =
    let whole = bates_label text width n in
    let digits = padded width n in
    let is = IsGood-from_test text width good in
    let few : (nat_le 1 (length digits) && nat_le (length digits) MOST_LABEL_DIGITS) ≡ true =
    and_from _ _ (le-leb 1 (length digits) (omega (arith, length-padded width n, is.wide)))
    (le-leb (length digits) 18 (omega (arith, length-padded width n, is.narrow))) in
    ap checked.label_of (label_bytes text width n good)
    ∙ ap (λ ds. cond (nat_le 1 (length ds) && nat_le (length ds) MOST_LABEL_DIGITS) (Some (label_with whole ds)) None)
    (digits_end text width n good)
    ∙ ap (λ b. cond b (Some (label_with whole digits)) None) few
    ∙ ap Some (with_digits text width n small)
