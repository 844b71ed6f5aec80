-- The values of a line of the log have no end of a line in them, and lines follow one another.
use Rattle.std.proofs.Common.{◌≡◌, ◌≤◌, ◌==◌, ◌||◌, ◌+◌, ◌/◌, ◌%◌, ℕ, zero, suc, Bool, true, false, not, leb, ltb, List, [], ◌∷◌, ◌++◌, length, refl, ap, subst, ◌∙◌, sym, arith, if◌then◌else◌, inl, inr, append_assoc, append-nil, Option, Some, None, flat_map, codes}
use Rattle.std.specs.Prelude.{encode_utf8_all}
use Rattle.std.specs.List.{join_with_byte, list_all, list_any}
use Rattle.std.proofs.lemmas.Bool.{and_parts, and_from, cases_Bool, eqb-true, le-leb, leb-true, or_from}
use Rattle.std.proofs.lemmas.List.Folds.{list_any-append}
use Rattle.std.proofs.Math.Utf8.{encode}
use Rattle.bp_core.specs.Characters.{carriage_return, newline}
use Rattle.bp_core.specs.declared.review.Basis.TheVariants.{Ac, Wp}
use Rattle.bp_bates.specs.Labels.{bates_label, padded}
use Rattle.bp_bates.specs.Prefixes.{is_allowed, is_good_prefix, is_good_text}
use Rattle.bp_bates.specs.declared.prefixes.Prefix.{Prefix}
use Rattle.bp_matter.specs.Texts.{is_text, is_text_character}
use Rattle.bp_matter.specs.Treatments.{is_withheld}
use Rattle.bp_matter.specs.ValidItems.{is_logged, optional_fits}
use Rattle.bp_matter.specs.declared.rows.Entry.{Entry}
use Rattle.bp_matter.specs.declared.rows.Item.{Item}
use Rattle.bp_freeze.specs.Csv.{csv_line}
use Rattle.bp_freeze.specs.Log.{code_if, entry_stands, entry_values, log_line, log_row, occurs, semicolon}
use Rattle.bp_freeze.specs.Writing.{is_one_line}

abbrev breaks : ℕ → Bool
breaks b = (b == carriage_return) || (b == newline)

-- a test that fails at both ends of a line tells that there is none
unbroken_by : (test : ℕ → Bool) → test 13 ≡ false → test 10 ≡ false → (b : ℕ) → test b ≡ true → breaks b ≡ false
unbroken_by test no_return no_newline b passes =
    elim (cases_Bool (b == carriage_return)) [
      | inl same ↦ (
          let at : b ≡ 13 = eqb-true b 13 same in
          let clash : test 13 ≡ true = subst (λ n. test n ≡ true) at passes in
          absurd cc)
      | inr other ↦ elim (cases_Bool (b == newline)) [
        | inl same ↦ (
            let at : b ≡ 10 = eqb-true b 10 same in
            let clash : test 10 ≡ true = subst (λ n. test n ≡ true) at passes in
            absurd cc)
        | inr none ↦ or_from _ _ other none
      ]
    ]

all_unbroken : (test : ℕ → Bool) → test 13 ≡ false → test 10 ≡ false → (bytes : List ℕ) → list_all test bytes ≡ true → list_any breaks bytes ≡ false
all_unbroken test no_return no_newline [] h = refl
all_unbroken test no_return no_newline (b ∷ bytes) h =
    let parts = and_parts (test b) (list_all test bytes) h in
    or_from _ _ (unbroken_by test no_return no_newline b parts.0) (all_unbroken test no_return no_newline bytes parts.1)

-- a number from 32 on ends no line
high : (b : ℕ) → 32 ≤ b → breaks b ≡ false
high b h = unbroken_by (λ n. leb 32 n) refl refl b (le-leb 32 b h)

joined : (xs ys : List ℕ) → list_any breaks xs ≡ false → list_any breaks ys ≡ false → list_any breaks (xs ++ ys) ≡ false
joined xs ys left right = list_any-append breaks xs ys ∙ or_from _ _ left right

-- ---- labels

unbroken_padded : (width n : ℕ) → list_any breaks (padded width n) ≡ false
unbroken_padded zero n = refl
unbroken_padded (suc width) n =
    joined (padded width (n / 10)) ((48 + n % 10) ∷ []) (unbroken_padded width (n / 10)) (or_from _ _ (high (48 + n % 10) (omega arith)) refl)

good_text : (text : List ℕ) (width : ℕ) → is_good_prefix text width ≡ true → list_all is_allowed text ≡ true
good_text text width good =
    let parts = and_parts _ (is_good_text text) good in
    let four = and_parts _ _ parts.1 in
    let three = and_parts _ _ four.0 in
    let two = and_parts _ _ three.0 in
    let one = and_parts (list_all is_allowed text) _ two.0 in one.0

one_label : (text : List ℕ) (width n : ℕ) → is_good_prefix text width ≡ true → is_one_line (bates_label text width n) ≡ true
one_label text width n good =
    ap not (joined text (padded width n) (all_unbroken is_allowed refl refl text (good_text text width good)) (unbroken_padded width n))

-- ---- texts in UTF-8

unbroken_encode : (c : ℕ) → 32 ≤ c → list_any breaks (encode c) ≡ false
unfolding encode
unbroken_encode c h =
    elim (cases_Bool (ltb c 128)) [
      | inl e ↦ rw e (or_from _ _ (high c h) refl)
      | inr e ↦ elim (cases_Bool (ltb c 2048)) [
        | inl e2 ↦ rw (e, e2) (or_from _ _ (high (192 + c / 64) (omega arith)) (or_from _ _ (high (128 + c % 64) (omega arith)) refl))
        | inr e2 ↦ elim (cases_Bool (ltb c 65536)) [
          | inl e3 ↦ rw (e, e2, e3) (or_from _ _ (high (224 + c / 4096) (omega arith)) (or_from _ _ (high (128 + (c / 64) % 64) (omega arith)) (or_from _ _ (high (128 + c % 64) (omega arith)) refl)))
          | inr e3 ↦ rw (e, e2, e3) (or_from _ _ (high (240 + c / 262144) (omega arith)) (or_from _ _ (high (128 + (c / 4096) % 64) (omega arith)) (or_from _ _ (high (128 + (c / 64) % 64) (omega arith)) (or_from _ _ (high (128 + c % 64) (omega arith)) refl))))
        ]
      ]
    ]

character_high : (c : ℕ) → is_text_character c ≡ true → 32 ≤ c
character_high c h =
    let plain = and_parts _ _ h in
    let low = and_parts (leb 32 c) _ plain.0 in
    leb-true 32 c low.0

unbroken_text : (text : List ℕ) → list_all is_text_character text ≡ true → list_any breaks (encode_utf8_all text) ≡ false
unbroken_text [] h = refl
unbroken_text (c ∷ text) h =
    let parts = and_parts (is_text_character c) (list_all is_text_character text) h in
    joined (encode c) (encode_utf8_all text) (unbroken_encode c (character_high c parts.0)) (unbroken_text text parts.1)

one_text : (limit : ℕ) (text : List ℕ) → is_text limit text ≡ true → is_one_line (encode_utf8_all text) ≡ true
one_text limit text h = ap not (unbroken_text text ((and_parts _ (list_all is_text_character text) h).1))

entry_lines : (e : Option Entry) → optional_fits e ≡ true → list_all is_one_line (entry_values e) ≡ true
entry_lines None h = refl
entry_lines (Some e) h =
    let three = and_parts _ _ h in
    let two = and_parts _ _ three.0 in
    let one = and_parts _ _ two.0 in
    and_from _ _ (one_text _ e.date one.0) (and_from _ _ (one_text _ e.author one.1) (and_from _ _ (one_text _ e.recipients two.1) (and_from _ _ (one_text _ e.description three.1) refl)))

-- ---- the claim

one_outcome : (b : Bool) → is_one_line (if b then codes "Withheld" else codes "Redacted") ≡ true
one_outcome true = refl
one_outcome false = refl

one_claims : (ac wp : Bool) → is_one_line (join_with_byte semicolon (code_if ac (codes "AC") ++ code_if wp (codes "WP"))) ≡ true
one_claims true true = refl
one_claims true false = refl
one_claims false true = refl
one_claims false false = refl

pub row-lines : (prefix : Prefix) (i : Item) → is_good_prefix prefix.text prefix.width ≡ true → entry_stands i ≡ true → list_all is_one_line (log_row prefix i) ≡ true
row-lines prefix i good stands =
    let entry = and_parts _ (optional_fits i.entry) stands in
    and_from _ _ (one_label prefix.text prefix.width i.span.first good)
    (and_from _ _ (one_label prefix.text prefix.width i.span.last good)
    (and_from _ _ (one_outcome (is_withheld i.treatment))
    (and_from _ _ (one_claims (occurs Ac i) (occurs Wp i)) (entry_lines i.entry entry.1))))

-- ---- lines that follow one another

pub line-more : (prefix : Prefix) (i : Item) (others rest : List Item) (text text' all : List ℕ) → text ++ flat_map (log_line prefix) rest ≡ all → rest ≡ i ∷ others → is_logged i ≡ true
    → text' ≡ text ++ csv_line (log_row prefix i) → text' ++ flat_map (log_line prefix) others ≡ all
line-more prefix i others rest text text' all so_far first logged more =
    ap (λ t. t ++ flat_map (log_line prefix) others) more
    ∙ append_assoc text (csv_line (log_row prefix i)) (flat_map (log_line prefix) others)
    ∙ ap (λ (b : Bool). text ++ ((if b then csv_line (log_row prefix i) else []) ++ flat_map (log_line prefix) others)) (sym logged)
    ∙ ap (λ items. text ++ flat_map (log_line prefix) items) (sym first) ∙ so_far

pub line-none : (prefix : Prefix) (i : Item) (others rest : List Item) (text all : List ℕ) → text ++ flat_map (log_line prefix) rest ≡ all → rest ≡ i ∷ others → is_logged i ≡ false
    → text ++ flat_map (log_line prefix) others ≡ all
line-none prefix i others rest text all so_far first logged =
    ap (λ (b : Bool). text ++ ((if b then csv_line (log_row prefix i) else []) ++ flat_map (log_line prefix) others)) (sym logged)
    ∙ ap (λ items. text ++ flat_map (log_line prefix) items) (sym first) ∙ so_far

-- what all of a list pass, all after the first pass
pub others-pass : {T : Type 0} (test : T → Bool) (rest others : List T) (first : T) → rest ≡ first ∷ others → list_all test rest ≡ true → list_all test others ≡ true
others-pass test rest others first is all = (and_parts (test first) (list_all test others) (sym (ap (list_all test) is) ∙ all)).1

pub log-done : (prefix : Prefix) (rest : List Item) (text all : List ℕ) → text ++ flat_map (log_line prefix) rest ≡ all → length rest ≡ 0 → text ≡ all
log-done prefix [] text all so_far none = sym (append-nil text) ∙ so_far
log-done prefix (i ∷ rest) text all so_far none = absurd (omega arith)
