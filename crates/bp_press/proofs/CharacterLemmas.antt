-- The characters of the names, labels, paths and values of a volume can be written in load files and drawn.
use Rattle.std.proofs.Common.{◌≡◌, ℕ, zero, suc, ◌+◌, ◌/◌, ◌%◌, ◌^◌, ◌<◌, ◌≤◌, ◌==◌, ◌&&◌, ◌||◌, not, Bool, true, List, [], ◌∷◌, ◌++◌, length, nat_lt, nat_le, refl, sym, ap, ◌∙◌, arith, inl, inr, length-append}
use Rattle.std.specs.Fmt.{decimal}
use Rattle.std.specs.List.{list_all, range_with_len, join_with_byte}
use Rattle.std.proofs.lemmas.Bool.{and_parts, and_from, cases_lt, false≢true, or_cases, ltb-true}
use Rattle.std.proofs.lemmas.Bool.Decides.{nat_tests}
use Rattle.std.proofs.lemmas.List.Folds.{list_all-append}
use Rattle.std.proofs.lemmas.Fmt.{decimal_by_steps}
use Rattle.bp_codes.specs.Glyphs.{glyph_rows}
use Rattle.bp_burn.specs.Drawn.{has_glyph}
use Rattle.bp_bates.specs.Labels.{bates_label, padded}
use Rattle.bp_bates.specs.Prefixes.{is_allowed, is_digit, is_good_prefix}
use Rattle.bp_bates.proofs.PrefixLemmas.{IsGood-from_test}
use Rattle.bp_load.specs.Dat.{is_cell, is_cell_character, is_name}
use Rattle.bp_load.specs.Opt.{is_field, is_field_character}
use Rattle.bp_matter.specs.Texts.{is_designation_character, is_name_character, is_value, is_value_character, is_volume_character, is_field_name}

-- a character from space to 126 that is no comma
abbrev pub is_clean : ℕ → Bool
is_clean c = nat_le 32 c && nat_lt c 127 && not (c == 44)

-- ---- lists

pub all-append : {T : Type 0} (p : T → Bool) (xs ys : List T) → list_all p xs ≡ true → list_all p ys ≡ true → list_all p (xs ++ ys) ≡ true
all-append p xs ys h k = list_all-append p xs ys ∙ and_from (list_all p xs) (list_all p ys) h k

-- what is more narrow is true of fewer
pub all-wider : {T : Type 0} (p q : T → Bool) (xs : List T) → ((x : T) → p x ≡ true → q x ≡ true) → list_all p xs ≡ true → list_all q xs ≡ true
all-wider p q [] wide h = refl
all-wider p q (x ∷ xs) wide h =
    let parts = and_parts (p x) (list_all p xs) h in
    and_from (q x) (list_all q xs) (wide x parts.0) (all-wider p q xs wide parts.1)

-- ---- each class of characters

pub clean-allowed : (c : ℕ) → is_allowed c ≡ true → is_clean c ≡ true
clean-allowed c h = grind (arith, nat_tests)

pub clean-volume : (c : ℕ) → is_volume_character c ≡ true → is_clean c ≡ true
clean-volume c h = grind (arith, nat_tests)

pub clean-designation : (c : ℕ) → is_designation_character c ≡ true → is_clean c ≡ true
clean-designation c h = grind (arith, nat_tests)

pub clean-digit : (c : ℕ) → is_digit c ≡ true → is_clean c ≡ true
clean-digit c h = grind (arith, nat_tests)

pub cell-clean : (c : ℕ) → is_clean c ≡ true → is_cell_character c ≡ true
cell-clean c h = grind (arith, nat_tests)

pub field-clean : (c : ℕ) → is_clean c ≡ true → is_field_character c ≡ true
field-clean c h = grind (arith, nat_tests)

pub allowed-digit : (c : ℕ) → is_digit c ≡ true → is_allowed c ≡ true
allowed-digit c h = grind (arith, nat_tests)

-- ---- glyphs

-- a test of each number up to 127
abbrev drawn_below : ℕ → Bool
drawn_below c = not (is_designation_character c) || has_glyph c

each_drawn : list_all drawn_below (range_with_len 0 127) ≡ true
unfolding glyph_rows
each_drawn = refl

at-below : (test : ℕ → Bool) (from n c : ℕ) → list_all test (range_with_len from n) ≡ true → from ≤ c → c < from + n → test c ≡ true
at-below test from zero c h low high = absurd (omega arith)
at-below test from (suc n) c h low high =
    let parts = and_parts (test from) (list_all test (range_with_len (from + 1) n)) h in
    elim (cases_lt from c) [
      | inl more ↦ at-below test (from + 1) n c parts.1 (omega arith) (omega arith)
      | inr less ↦ (
          let same : from ≡ c = omega arith in
          ap test (sym same) ∙ parts.0)
    ]

pub glyph-designation : (c : ℕ) → is_designation_character c ≡ true → has_glyph c ≡ true
glyph-designation c h =
    let small : c < 127 = ltb-true c 127 (and_parts (nat_le 32 c) (nat_lt c 127) (and_parts (nat_le 32 c && nat_lt c 127) (not (c == 44)) (clean-designation c h)).0).1 in
    elim (or_cases (not (is_designation_character c)) (has_glyph c) (at-below drawn_below 0 127 c each_drawn (omega arith) (omega arith))) [
      | inl other ↦ absurd (false≢true (sym (ap not h) ∙ other))
      | inr drawn ↦ drawn
    ]

designation-allowed : (c : ℕ) → is_allowed c ≡ true → is_designation_character c ≡ true
designation-allowed c h = grind (arith, nat_tests)

pub glyph-allowed : (c : ℕ) → is_allowed c ≡ true → has_glyph c ≡ true
glyph-allowed c h = glyph-designation c (designation-allowed c h)

-- ---- numbers

digit_one : (n : ℕ) → n < 10 → is_digit (48 + n) ≡ true
digit_one n l = grind (arith, nat_tests)

one_digit : (n : ℕ) → n < 10 → list_all is_digit ((48 + n) ∷ []) ≡ true
one_digit n l = and_from (is_digit (48 + n)) true (digit_one n l) refl

pub padded_digits : (width n : ℕ) → list_all is_digit (padded width n) ≡ true
padded_digits zero n = refl
padded_digits (suc width) n = all-append is_digit (padded width (n / 10)) ((48 + n % 10) ∷ []) (padded_digits width (n / 10)) (one_digit (n % 10) (omega arith))

pub decimal_digits : (n : ℕ) → n < 2 ^ 64 → list_all is_digit (decimal n) ≡ true
decimal_digits n l =
    decimal_by_steps (λ n ds. list_all is_digit ds ≡ true) one_digit
    (λ n ds many so_far. all-append is_digit ds ((48 + n % 10) ∷ []) so_far (one_digit (n % 10) (omega arith))) n l

pub label_allowed : (text : List ℕ) (width n : ℕ) → is_good_prefix text width ≡ true → list_all is_allowed (bates_label text width n) ≡ true
label_allowed text width n good =
    all-append is_allowed text (padded width n) (IsGood-from_test text width good).allowed (all-wider is_digit is_allowed (padded width n) allowed-digit (padded_digits width n))

pub label_clean : (text : List ℕ) (width n : ℕ) → is_good_prefix text width ≡ true → list_all is_clean (bates_label text width n) ≡ true
label_clean text width n good = all-wider is_allowed is_clean (bates_label text width n) clean-allowed (label_allowed text width n good)

pub label_some : (text : List ℕ) (width n : ℕ) → is_good_prefix text width ≡ true → 0 < length (bates_label text width n)
label_some text width n good = omega (arith, (IsGood-from_test text width good).some, length-append text (padded width n))

-- ---- four steps of a path

pub four_clean : (s : ℕ) (v k f l : List ℕ) → is_clean s ≡ true → list_all is_clean v ≡ true → list_all is_clean k ≡ true → list_all is_clean f ≡ true → list_all is_clean l ≡ true
    → list_all is_clean (join_with_byte s (v ∷ k ∷ f ∷ l ∷ [])) ≡ true
four_clean s v k f l cs cv ck cf cl =
    let after : (rest : List ℕ) → list_all is_clean rest ≡ true → list_all is_clean (s ∷ rest) ≡ true = λ rest h. and_from (is_clean s) (list_all is_clean rest) cs h in
    let three = after (f ++ s ∷ l) (all-append is_clean f (s ∷ l) cf (after l cl)) in
    all-append is_clean v (s ∷ (k ++ s ∷ (f ++ s ∷ l))) cv (after (k ++ s ∷ (f ++ s ∷ l)) (all-append is_clean k (s ∷ (f ++ s ∷ l)) ck three))

-- ---- what can be written

pub cell_clean : (text : List ℕ) → list_all is_clean text ≡ true → is_cell text ≡ true
cell_clean text h = all-wider is_clean is_cell_character text cell-clean h

pub field_clean : (text : List ℕ) → list_all is_clean text ≡ true → is_field text ≡ true
field_clean text h = all-wider is_clean is_field_character text field-clean h

pub cell_value : (text : List ℕ) → is_value text ≡ true → is_cell text ≡ true
cell_value text h = h

name_cell : (c : ℕ) → is_name_character c ≡ true → is_cell_character c ≡ true
name_cell c h = (and_parts (is_value_character c) (not (c == 10)) h).0

name_line : (c : ℕ) → is_name_character c ≡ true → not (c == 10) ≡ true
name_line c h = (and_parts (is_value_character c) (not (c == 10)) h).1

pub name_field : (text : List ℕ) → is_field_name text ≡ true → is_name text ≡ true
name_field text h =
    and_from (is_cell text) (list_all (λ c. not (c == 10)) text)
    (all-wider is_name_character is_cell_character text name_cell h) (all-wider is_name_character (λ c. not (c == 10)) text name_line h)
