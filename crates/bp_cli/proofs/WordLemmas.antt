-- Lemmas of words: from the words of a command line to its command.
use Rattle.std.proofs.Common.{ℕ, zero, suc, ◌+◌, ◌++◌, Bor, map, take, ◌≡◌, ◌<◌, ◌≤◌, ◌^◌, true, false, not, ◌&&◌, ◌||◌, eqb, nat_le, List, [], ◌∷◌, length, drop, Option, Some, None, Result, get_or, refl, sym, ap, ◌∙◌, arith, String}
use Rattle.std.specs.declared.alloc.Global.{Global}
use Rattle.std.specs.List.{list_any, list_all}
use Rattle.std.specs.Char.{is_ascii_digit}
use Rattle.std.specs.Result.{result_ok}
use Rattle.std.specs.Str.{all_ascii_digits, chars}
use Rattle.std.proofs.lemmas.List.{nil_from_length}
use Rattle.std.specs.Str.Parse.{digits_value, ParsesUnsigned}
use Rattle.std.specs.String.{string_bytes}
use Rattle.std.proofs.lemmas.Bool.{and_parts, leb-true, cond-true, cond-false, eqb-true}
use Rattle.std.proofs.lemmas.Str.Parse.{IsNumeralModel, numerals_by_value, tells_all_ascii_digits, parse_gives, digits_value_short}
use Rattle.bp_cli.specs.Words.{word_bytes, word_of, words_lent, is_bad_word}
use Rattle.bp_cli.specs.Commands.{CommandLine, named_command, command_of}

pub any_of_bytes : (words : List (String Global)) → list_any (λ word. is_bad_word (string_bytes word)) words ≡ list_any is_bad_word (word_bytes words)
any_of_bytes [] = refl
any_of_bytes (word ∷ words) = ap (λ rest. is_bad_word (string_bytes word) || rest) (any_of_bytes words)

-- ---- command lines

pub no_words : (words : List (String Global)) → eqb (length words) 0 ≡ true → None ≡ command_of (word_bytes words)
no_words words empty = ap (λ ws. command_of (word_bytes ws)) (sym (nil_from_length words (eqb-true (length words) 0 empty)))

pub bad_words : (words : List (List ℕ)) → list_any is_bad_word words ≡ true → None ≡ command_of words
bad_words words bad = sym (cond-true (list_any is_bad_word words) None (named_command words) bad)

-- the first word
pub some_words : (words : List (String Global)) → eqb (length words) 0 ≡ false → 0 < length words
some_words [] none = cc
some_words (word ∷ words) none = omega arith

pub first_word : (words : List (String Global)) (word : String Global) → 0 < length words → word ≡ get_or words 0 word → string_bytes word ≡ word_of (word_bytes words) 0
first_word [] word some is = absurd (omega arith)
first_word (first ∷ words) word some is = ap string_bytes is

-- it names a command, which is made of the others
pub good_words : (words : List (String Global)) (operands : List (List ℕ)) (name : List ℕ) (command : Option CommandLine) → 0 < length words → list_any is_bad_word (word_bytes words) ≡ false → name ≡ word_of (word_bytes words) 0 → operands ≡ drop 1 (word_bytes words) → command ≡ named_command (name ∷ operands) → command ≡ command_of (word_bytes words)
good_words [] operands name command some good named rest is = absurd (omega arith)
good_words (word ∷ words) operands name command some good named rest is =
    is ∙ ap (λ n. named_command (n ∷ operands)) named ∙ ap (λ ws. named_command (string_bytes word ∷ ws)) rest
    ∙ sym (cond-false (list_any is_bad_word (word_bytes (word ∷ words))) None (named_command (word_bytes (word ∷ words))) good)

-- the characters of the words up to one, and of that one
pub chars_next : (words : List (Bor (List ℕ))) (i : ℕ) (d : Bor (List ℕ)) → i < length words → map chars (words_lent (take (i + 1) words)) ≡ map chars (words_lent (take i words)) ++ chars (get_or words i d).now ∷ []
chars_next [] i d l = absurd (omega arith)
chars_next (word ∷ words) zero d l = refl
chars_next (word ∷ words) (suc i) d l =
    let e : suc i + 1 ≡ suc (i + 1) = omega arith in
    ap (λ n. map chars (words_lent (take n (word ∷ words)))) e ∙ ap (λ (texts : List (List ℕ)). chars word.now ∷ texts) (chars_next words i d (omega arith))
