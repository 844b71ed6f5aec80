-- The terms of a search.
use Rattle.std.specs.Prelude.{ℕ, Bool, ◌&&◌, ◌==◌, List, length, nat_le, not, encode_utf8_all}
use Rattle.std.specs.List.{list_all}
use Rattle.bp_matter.specs.Texts.{is_word_text}
use Rattle.bp_looks.specs.declared.terms.TheConstants.{MAX_TERM, MAX_TERMS}

-- a term is a text that a word may have, of at most so many bytes in UTF-8
-- by RFC 3629
abbrev pub is_term : List ℕ → Bool
is_term term = nat_le (length (encode_utf8_all term)) MAX_TERM && is_word_text term

-- one term or more, and not too many
abbrev pub are_terms : List (List ℕ) → Bool
are_terms terms =
    not (length terms == 0) && nat_le (length terms) MAX_TERMS && list_all is_term terms
