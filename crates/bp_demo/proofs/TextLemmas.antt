-- What is known of the texts of a demo: ASCII characters, which words and ids may have.
use Rattle.std.proofs.Common.{◌≡◌, ℕ, ◌+◌, ◌%◌, ◌<◌, ◌^◌, ◌==◌, Bool, true, not, List, [], ◌∷◌, ◌++◌, length, nat_lt, refl, sym, ap, ◌∙◌, arith}
use Rattle.std.specs.Fmt.{decimal}
use Rattle.std.specs.List.{list_all}
use Rattle.std.specs.Prelude.{codes}
use Rattle.std.specs.Str.{IsAscii, all_scalars, chars}
use Rattle.std.proofs.lemmas.Bool.{and_from, and_parts, le-leb, lt-ltb, ltb-true, ne_eqb}
use Rattle.std.proofs.lemmas.Fmt.{IsAscii-decimal, decimal_by_steps, decimal_nonempty, length-decimal-le}
use Rattle.std.proofs.lemmas.List.Folds.{list_all-append}
use Rattle.std.proofs.lemmas.Str.{IsUtf8-from_ascii, chars-IsAscii, scalars-chars}
use Rattle.std.proofs.lemmas.Str.Ascii.{IsAscii-cons, IsAscii-nil, encodes-IsAscii}
use Rattle.bp_matter.specs.Texts.{is_id_of_doc, is_id_of_doc_character, is_plain_character, is_word_text}
use Rattle.bp_matter.specs.Written.{is_short, is_word}

-- ---- tests

pub apart : (c k : ℕ) → (c ≡ k → ⊥) → not (c == k) ≡ true
apart c k ne = ap not (ne_eqb c k ne)

-- a test that each digit passes is passed by all digits of a number
all_digits : (p : ℕ → Bool) → ((d : ℕ) → d < 10 → p (48 + d) ≡ true) → (n : ℕ) → n < 2 ^ 64 → list_all p (decimal n) ≡ true
all_digits p digit n small =
    decimal_by_steps (λ _ ds. list_all p ds ≡ true)
    (λ d below. and_from (p (48 + d)) true (digit d below) refl)
    (λ m ds large before.
    list_all-append p ds ((48 + m % 10) ∷ [])
    ∙ and_from (list_all p ds) (list_all p ((48 + m % 10) ∷ [])) before (and_from (p (48 + m % 10)) true (digit (m % 10) (omega arith)) refl))
    n small

digit_plain : (d : ℕ) → d < 10 → is_plain_character (48 + d) ≡ true
digit_plain d below = and_from _ _ (le-leb 32 (48 + d) (omega arith)) (apart (48 + d) 127 (λ e. omega arith))

digit_of_id : (d : ℕ) → d < 10 → is_id_of_doc_character (48 + d) ≡ true
digit_of_id d below =
    let c = 48 + d in
    and_from _ _
    (and_from _ _
    (and_from _ _
    (and_from _ _ (and_from _ _ (apart c 254 (λ e. omega arith)) (apart c 20 (λ e. omega arith))) (apart c 13 (λ e. omega arith)))
    (apart c 174 (λ e. omega arith)))
    (apart c 10 (λ e. omega arith)))
    (apart c 44 (λ e. omega arith))

-- ---- words and ids

pub word_text_fits : (n : ℕ) → n < 2 ^ 64 → is_word_text (codes "w" ++ decimal n) ≡ true
word_text_fits n small = and_from _ _ (apart (length (119 ∷ decimal n)) 0 (λ e. omega arith)) (and_from _ _ refl (all_digits is_plain_character digit_plain n small))

pub id_fits : (n : ℕ) → n < 2 ^ 64 → is_id_of_doc (decimal n) ≡ true
id_fits n small =
    let some = decimal_nonempty n small in
    and_from _ _ (apart (length (decimal n)) 0 (λ e. omega arith)) (all_digits is_id_of_doc_character digit_of_id n small)

-- ---- their writing

short_ascii : (text : List ℕ) → IsAscii text → length text < 4294967296 → is_short text ≡ true
short_ascii text ascii few =
    and_from (all_scalars text) _ (ap all_scalars (sym (chars-IsAscii text ascii)) ∙ scalars-chars text (IsUtf8-from_ascii text ascii))
    (ap (λ bytes. is_word (length bytes)) (encodes-IsAscii text ascii) ∙ lt-ltb (length text) (2 ^ 32) few)

pub id_short : (n : ℕ) → n < 4294967296 → is_short (decimal n) ≡ true
id_short n small =
    let few = length-decimal-le 10 n (omega arith) (omega arith) (omega arith) in
    short_ascii (decimal n) (IsAscii-decimal n (omega arith)) (omega arith)

pub word_text_short : (n : ℕ) → n < 4294967296 → is_short (codes "w" ++ decimal n) ≡ true
word_text_short n small =
    let few = length-decimal-le 10 n (omega arith) (omega arith) (omega arith) in
    short_ascii (119 ∷ decimal n) (IsAscii-cons 119 (decimal n) (omega arith) (IsAscii-decimal n (omega arith))) (omega arith)

-- ---- as they are made

-- a text of ASCII characters is its bytes
pub plain_is : (text bytes given : List ℕ) → text ≡ chars bytes → bytes ≡ given → IsAscii given → text ≡ given
plain_is text bytes given made same ascii = made ∙ ap chars same ∙ chars-IsAscii given ascii

pub ascii_tested : (bytes : List ℕ) → list_all (λ byte. nat_lt byte 128) bytes ≡ true → IsAscii bytes
ascii_tested [] all = IsAscii-nil
ascii_tested (b ∷ bs) all =
    let parts = and_parts (nat_lt b 128) (list_all (λ byte. nat_lt byte 128) bs) all in
    IsAscii-cons b bs (ltb-true b 128 parts.0) (ascii_tested bs parts.1)

pub decimal_ascii : (n : ℕ) → n < 4294967296 → IsAscii (decimal n)
decimal_ascii n small = IsAscii-decimal n (omega arith)

pub word_ascii : (n : ℕ) → n < 4294967296 → IsAscii (119 ∷ decimal n)
word_ascii n small = IsAscii-cons 119 (decimal n) (omega arith) (decimal_ascii n small)
