-- The texts that calls and the import accept, as lists of Unicode characters.
use Rattle.std.specs.Prelude.{ℕ, Bool, List, [], ◌∷◌, length, nat_le, ◌==◌, ◌&&◌, ◌||◌, not, encode_utf8_all, codes}
use Rattle.std.specs.List.{list_all, list_any}
use Rattle.std.specs.Str.{bytes_eq}
use Rattle.bp_core.specs.Characters.{newline, carriage_return, space, comma, hyphen, digit_zero, digit_nine, letter_a, letter_z, low_line, newline_sign, quote, separator}
use Rattle.bp_matter.specs.declared.limits.TheConstants.{MAX_DESIGNATION, MAX_ID}

-- neither a control character below 20 hex, nor 7F
-- by RFC 3629
abbrev pub is_plain_character : ℕ → Bool
is_plain_character c = nat_le 32 c && not (c == 127)

-- nor what quotes a value
-- by RFC 3629
abbrev pub is_text_character : ℕ → Bool
is_text_character c = is_plain_character c && not (c == quote)

-- at most so many bytes in UTF-8, of such characters
-- by RFC 3629
abbrev pub is_text : ℕ → List ℕ → Bool
is_text limit text = nat_le (length (encode_utf8_all text)) limit && list_all is_text_character text

-- A-Z, 0-9, '-', '_'
abbrev pub is_volume_character : ℕ → Bool
is_volume_character c =
    (nat_le letter_a c && nat_le c letter_z) || (nat_le digit_zero c && nat_le c digit_nine)
    || (c == hyphen) || (c == low_line)

-- these, '.' and space
abbrev pub is_designation_character : ℕ → Bool
is_designation_character c = is_volume_character c || (c == 46) || (c == space)

-- at most 40 of them
abbrev pub is_designation : List ℕ → Bool
is_designation text =
    nat_le (length text) MAX_DESIGNATION && list_all is_designation_character text

-- A-Z, 0-9, '-', '_' and a-z
abbrev pub is_id_character : ℕ → Bool
is_id_character c = is_volume_character c || (nat_le 97 c && nat_le c 122)

-- the name of a volume has 1 to 32 characters
abbrev pub is_volume : List ℕ → Bool
is_volume text =
    nat_le 1 (length text) && nat_le (length text) MAX_ID && list_all is_volume_character text

-- so does the id of a production
abbrev pub is_id : List ℕ → Bool
is_id text = nat_le 1 (length text) && nat_le (length text) MAX_ID && list_all is_id_character text

-- and so does the name of a batch
abbrev pub is_batch_name : List ℕ → Bool
is_batch_name text = is_id text

-- what no value of a DAT file holds: its quote and separator, CR, and the sign of a newline
abbrev pub is_value_character : ℕ → Bool
is_value_character c =
    not (c == quote) && not (c == separator) && not (c == carriage_return)
    && not (c == newline_sign)

-- a value of a DAT file
abbrev pub is_value : List ℕ → Bool
is_value text = list_all is_value_character text

-- the name of a field is a value without a newline
abbrev pub is_name_character : ℕ → Bool
is_name_character c = is_value_character c && not (c == newline)

-- the name of a field
abbrev pub is_field_name : List ℕ → Bool
is_field_name text = list_all is_name_character text

-- the id of a document is a value of a DAT file and an image id of an OPT file, so it has no
-- comma either
abbrev pub is_id_of_doc_character : ℕ → Bool
is_id_of_doc_character c = is_name_character c && not (c == comma)

-- the id of a document has a character
abbrev pub is_id_of_doc : List ℕ → Bool
is_id_of_doc text = not (length text == 0) && list_all is_id_of_doc_character text

-- a word of a page has plain characters, at least one
abbrev pub is_word_text : List ℕ → Bool
is_word_text text = not (length text == 0) && list_all is_plain_character text

-- the columns that the DAT file of a volume has of itself
abbrev pub columns : List (List ℕ)
columns =
    codes "BEGDOC" ∷ codes "ENDDOC" ∷ codes "BEGATTACH" ∷ codes "ENDATTACH"
    ∷ codes "PAGECOUNT" ∷ codes "DESIGNATION" ∷ codes "WITHHELD" ∷ codes "TEXTPATH" ∷ []

-- one of these columns, in UTF-8
abbrev pub is_one_column : List ℕ → Bool
is_one_column bytes = list_any (λ column. bytes_eq bytes column) columns

-- the same of a text
abbrev pub is_column_name : List ℕ → Bool
is_column_name text = is_one_column (encode_utf8_all text)
