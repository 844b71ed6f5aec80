-- The columns of a DAT file that a check uses.
use Rattle.std.specs.Prelude.{ℕ, Bool, List, ◌&&◌, codes, encode_utf8_all}
use Rattle.std.specs.List.{list_any}
use Rattle.std.specs.Str.{bytes_eq}
use Rattle.bp_core.specs.Differing.{texts_differ}
use Rattle.bp_load.specs.Documents.{is_begdoc}

-- the last page of a document
abbrev pub is_enddoc : List ℕ → Bool
is_enddoc column = bytes_eq (encode_utf8_all column) (codes "ENDDOC")

-- how many pages it has
abbrev pub is_pagecount : List ℕ → Bool
is_pagecount column = bytes_eq (encode_utf8_all column) (codes "PAGECOUNT")

-- the path of its text
abbrev pub is_textpath : List ℕ → Bool
is_textpath column = bytes_eq (encode_utf8_all column) (codes "TEXTPATH")

-- BEGDOC and ENDDOC are there, and no name is repeated
abbrev pub are_columns : List (List ℕ) → Bool
are_columns columns =
    list_any is_begdoc columns && list_any is_enddoc columns && texts_differ columns
