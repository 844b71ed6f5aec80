-- What is known of the texts that a DAT file, an OPT file and a words file hold.
use Rattle.std.proofs.Common.{◌≡◌, ℕ, zero, suc, ◌+◌, ◌-◌, ◌*◌, ◌^◌, ◌<◌, ◌≤◌, ◌==◌, ◌&&◌, ◌||◌, Bool, true, false, cond, not, inl, inr, Option, Some, None, Result, Ok, Err, List, [], ◌∷◌, ◌++◌, length, map, take, drop, get_or, nat_le, encode_utf8, encode_utf8_all, refl, sym, ap, ◌∙◌, arith, subst}
use Rattle.std.specs.List.{list_all, list_any, slice_split}
use Rattle.std.specs.Str.{IsUtf8, all_scalars, chars, is_utf8}
use Rattle.std.proofs.lemmas.Bool.{and_from, and_parts, cases_Bool, eqb-true, leb-true, lt-ltb}
use Rattle.std.proofs.lemmas.List.{length-append, length-drop, length-map, length-take}
use Rattle.std.proofs.lemmas.Str.{IsUtf8-from_is_utf8, encodes-chars, length-encode, length-le-encodes, len_utf8_bounds, scalars-chars}
use Rattle.bp_core.specs.Characters.{carriage_return, newline, newline_sign, quote, separator}
use Rattle.bp_load.proofs.TextLemmas.{passing_bytes}
use Rattle.bp_load.specs.Dat.{each_value, inside, is_inner, of_number, is_quoted, quoted_value, read_character, row_of_values, together, values_of_line}
use Rattle.bp_matter.specs.Texts.{is_value, is_value_character}
use Rattle.bp_matter.specs.Written.{is_short, is_word}
use Rattle.bp_import.specs.declared.files.TheConstants.{FILE_LIMIT}
use Rattle.bp_import.proofs.EachLemmas.{Each, all_both, all_from, all_weaker, each_both, each_drop, each_from, each_map, each_take, each_weaker}
use Rattle.bp_import.proofs.PageFactLemmas.{word_from}
use Rattle.bp_import.proofs.TextFactLemmas.{split_none, split_short, split_text}

-- ---- lengths

-- a character has at most four bytes
pub encoded_four : (cs : List ℕ) → length (encode_utf8_all cs) ≤ 4 * length cs
encoded_four [] = omega arith
encoded_four (c ∷ cs) = omega (arith, length-append (encode_utf8 c) (encode_utf8_all cs), length-encode c, len_utf8_bounds c, encoded_four cs)

-- the characters of a text are no more than its bytes
pub chars_few : (bytes : List ℕ) → IsUtf8 bytes → length (chars bytes) ≤ length bytes
chars_few bytes text = omega (arith, length-le-encodes (chars bytes), ap length (encodes-chars bytes text))

-- a test that each character outside ASCII passes, of bytes and of characters
pub chars_pass : (q : ℕ → Bool) → ((b : ℕ) → 128 ≤ b → q b ≡ true) → (bytes : List ℕ) → IsUtf8 bytes → list_all q bytes ≡ true → list_all q (chars bytes) ≡ true
chars_pass q passes bytes text all = sym (passing_bytes q passes (chars bytes)) ∙ ap (list_all q) (encodes-chars bytes text) ∙ all

pub not_same : (b k : ℕ) → k < b → not (b == k) ≡ true
not_same b k less =
    elim (cases_Bool (b == k)) [
      | inl is ↦ absurd (omega (arith, eqb-true b k is, less))
      | inr isnt ↦ ap not isnt
    ]

-- ---- one value of a DAT file

pub record GoodValue (value : List ℕ) : Type 0 where
  pub fits : is_value value ≡ true
  pub short : is_short value ≡ true

pub empty_value : GoodValue []
empty_value = record { fits = refl; short = refl }

-- what a character of a value is read as
read_fits : (c : ℕ) → is_inner c ≡ true → not (c == separator) ≡ true → is_value_character (read_character c) ≡ true
read_fits c inner apart =
    let parts = and_parts (not (c == quote)) (not (c == carriage_return)) inner in
    elim (cases_Bool (c == newline_sign)) [
      | inl is ↦ ap (λ b. is_value_character (cond b newline c)) is
      | inr isnt ↦
          ap (λ b. is_value_character (cond b newline c)) isnt
          ∙ and_from (not (c == quote) && not (c == separator) && not (c == carriage_return)) (not (c == newline_sign))
          (and_from (not (c == quote) && not (c == separator)) (not (c == carriage_return)) (and_from (not (c == quote)) (not (c == separator)) parts.0 apart) parts.1)
          (ap not isnt)
    ]

-- a list of scalars, one by one
scalars_each : (cs : List ℕ) → all_scalars cs ≡ true → Each (λ c. all_scalars (c ∷ []) ≡ true) cs
scalars_each [] all = tt
scalars_each (c ∷ cs) all = let parts = and_parts _ _ all in (and_from _ _ parts.0 refl, scalars_each cs parts.1)

scalars_from : (cs : List ℕ) → Each (λ c. all_scalars (c ∷ []) ≡ true) cs → all_scalars cs ≡ true
scalars_from [] each = refl
scalars_from (c ∷ cs) each = and_from _ _ (and_parts _ _ each.0).0 (scalars_from cs each.1)

read_scalar : (c : ℕ) → all_scalars (c ∷ []) ≡ true → all_scalars (read_character c ∷ []) ≡ true
read_scalar c scalar =
    elim (cases_Bool (c == newline_sign)) [
      | inl is ↦ ap (λ b. all_scalars (cond b newline c ∷ [])) is
      | inr isnt ↦ ap (λ b. all_scalars (cond b newline c ∷ [])) isnt ∙ scalar
    ]

-- what stands between the quotes of a piece, read
inner_good : (piece : List ℕ) → IsUtf8 piece → length piece ≤ FILE_LIMIT → list_all (λ c. not (c == separator)) piece ≡ true
    → list_all is_inner (inside (chars piece)) ≡ true → GoodValue (map read_character (inside (chars piece)))
inner_good piece text short apart inner =
    let cs = chars piece in
    let Apart : ℕ → Type 0 = λ c. not (c == separator) ≡ true in
    let Scalar : ℕ → Type 0 = λ c. all_scalars (c ∷ []) ≡ true in
    let away = each_from (λ c. not (c == separator)) cs (chars_pass (λ c. not (c == separator)) (λ b large. not_same b separator (omega (arith, large))) piece text apart) in
    let away' = each_take Apart (length cs - 2) (drop 1 cs) (each_drop Apart 1 cs away) in
    let scalars = each_take Scalar (length cs - 2) (drop 1 cs) (each_drop Scalar 1 cs (scalars_each cs (scalars-chars piece text))) in
    let good = each_both (λ c. is_inner c ≡ true) Apart (inside cs) (each_from is_inner (inside cs) inner) away' in
    let value = map read_character (inside cs) in
    let few : length value ≤ FILE_LIMIT = omega (arith, length-map (inside cs) read_character, length-take (length cs - 2) (drop 1 cs), length-drop 1 cs, chars_few piece text, short) in
    record {
      fits = all_from (λ c. is_value_character c ≡ true) is_value_character value (λ c is. is)
          (each_map (λ c. (is_inner c ≡ true) × Apart c) (λ c. is_value_character c ≡ true) read_character (inside cs) (λ c both. read_fits c both.0 both.1) good);
      short = and_from (all_scalars value) (is_word (length (encode_utf8_all value)))
          (scalars_from value (each_map Scalar Scalar read_character (inside cs) read_scalar scalars))
          (word_from (length (encode_utf8_all value)) (omega (arith, encoded_four value, few)));
    }

quoted_parts : (piece value : List ℕ) (fits : Bool) → (is_quoted piece && list_all is_inner (inside piece)) ≡ fits
    → cond fits (Some (map read_character (inside piece))) None ≡ Some value
    → (list_all is_inner (inside piece) ≡ true) × (value ≡ map read_character (inside piece))
quoted_parts piece value true is e = let same : map read_character (inside piece) ≡ value = cc in ((and_parts (is_quoted piece) (list_all is_inner (inside piece)) is).1, sym same)
quoted_parts piece value false is e = cc

-- a piece between two separators
abbrev Piece : List ℕ → Type 0
Piece piece = (IsUtf8 piece × (length piece ≤ FILE_LIMIT)) × (list_all (λ c. not (c == separator)) piece ≡ true)

value_good : (piece value : List ℕ) → Piece piece → quoted_value (chars piece) ≡ Some value → GoodValue value
value_good piece value is e =
    let parts = quoted_parts (chars piece) value (is_quoted (chars piece) && list_all is_inner (inside (chars piece))) refl e in
    subst GoodValue (sym parts.1) (inner_good piece is.0.0 is.0.1 is.1 parts.0)

together_parts : (o : Option (List ℕ)) (others : Option (List (List ℕ))) (values : List (List ℕ)) → together o others ≡ Some values
    → (value : List ℕ) × ((rest : List (List ℕ)) × ((o ≡ Some value) × (others ≡ Some rest) × (values ≡ value ∷ rest)))
together_parts None others values e = cc
together_parts (Some v) None values e = cc
together_parts (Some v) (Some vs) values e = let same : v ∷ vs ≡ values = cc in (v, (vs, (refl, refl, sym same)))

each_good : (pieces values : List (List ℕ)) → Each Piece pieces → each_value pieces ≡ Some values → Each GoodValue values × (length values ≡ length pieces)
each_good [] values each e = let same : [] ≡ values = cc in (subst (Each GoodValue) same tt, sym (ap length same))
each_good (piece ∷ pieces) values each e =
    let parts = together_parts (quoted_value (chars piece)) (each_value pieces) values e in
    let rest = each_good pieces parts.1.0 each.1 parts.1.1.1 in
    (subst (Each GoodValue) (sym parts.1.1.2) (value_good piece parts.0 each.0 parts.1.1.0, rest.0), ap length parts.1.1.2 ∙ ap suc rest.1)

-- the values of a line
pub values_good : (line : List ℕ) (values : List (List ℕ)) → IsUtf8 line → length line ≤ FILE_LIMIT → values_of_line line ≡ Some values
    → Each GoodValue values × (length values ≡ length (slice_split (λ c. c == separator) line))
values_good line values text short e =
    let pieces = slice_split (λ c. c == separator) line in
    let texts = split_text separator (omega arith) refl line text in
    let shorts = each_weaker (λ p. length p ≤ length line) (λ p. length p ≤ FILE_LIMIT) pieces (λ p less. omega (arith, less, short)) (split_short (λ c. c == separator) line) in
    each_good pieces values
    (each_both (λ p. IsUtf8 p × (length p ≤ FILE_LIMIT)) (λ p. list_all (λ c. not (c == separator)) p ≡ true) pieces
    (each_both IsUtf8 (λ p. length p ≤ FILE_LIMIT) pieces texts shorts) (split_none (λ c. c == separator) line)) e

number_parts : (n : ℕ) (o : Option (List (List ℕ))) (row : List (List ℕ)) → of_number n o ≡ Some row → (o ≡ Some row) × (length row ≡ n)
number_parts n None row e = cc
number_parts n (Some values) row e =
    elim (cases_Bool (length values == n)) [
      | inl is ↦ let same : Some values ≡ Some row = sym (ap (λ b. cond b (Some values) None) is) ∙ e in (same, let v : values ≡ row = cc in ap length (sym v) ∙ eqb-true (length values) n is)
      | inr isnt ↦ let none : None ≡ Some row = sym (ap (λ b. cond b (Some values) None) isnt) ∙ e in cc
    ]

-- the values of a row
pub row_good : (n : ℕ) (line : List ℕ) (row : List (List ℕ)) → IsUtf8 line → length line ≤ FILE_LIMIT → row_of_values n line ≡ Some row → Each GoodValue row × (length row ≡ n)
row_good n line row text short e =
    let parts = number_parts n (values_of_line line) row e in
    ((values_good line row text short parts.0).0, parts.1)
