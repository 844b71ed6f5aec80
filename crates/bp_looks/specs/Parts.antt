-- The parts of documents. Part 0 of a document is its values, a row of texts for each field in order;
-- each other part is the page of that number, one row of texts.
use Rattle.std.specs.Prelude.{ℕ, ◌+◌, ◌-◌, List, [], ◌∷◌, ◌++◌, map, length, drop, slice_index_or, Option, Some, None}
use Rattle.std.specs.List.{range_with_len}
use Rattle.bp_text.specs.declared.words.Word.{Word}
use Rattle.bp_matter.specs.LookUps.{doc_with, words_with}
use Rattle.bp_matter.specs.Matter.{Matter}
use Rattle.bp_matter.specs.declared.rows.DocRow.{DocRow}
use Rattle.bp_matter.specs.declared.rows.PageWords.{PageWords}
use Rattle.bp_looks.specs.Hits.{word_text}
use Rattle.bp_looks.specs.Pieces.{pieces_of}

-- the rows of texts of a part
abbrev pub PartRows : Type 0
PartRows = List (List (List ℕ))

-- a part of a document
pub record Part : Type 0 where
  pub doc : ℕ
  pub page : ℕ
  pub rows : PartRows

-- the words of a page; in a valid matter each page has a row of words
abbrev pub words_of_page : Option PageWords → List Word
words_of_page None = []
words_of_page (Some row) = row.words

-- the words of a page of a matter
abbrev pub page_words : Matter → ℕ → ℕ → List Word
page_words m doc page = words_of_page (words_with doc page m)

-- their texts
abbrev pub page_texts : Matter → ℕ → ℕ → List (List ℕ)
page_texts m doc page = map word_text (page_words m doc page)

-- a page's one row of texts
abbrev pub page_rows : Matter → ℕ → ℕ → PartRows
page_rows m doc page = page_texts m doc page ∷ []

-- a page as a part
abbrev pub page_part : Matter → ℕ → ℕ → Part
page_part m doc page = record { doc = doc; page = page; rows = page_rows m doc page }

-- the rows of texts of each part of a document
abbrev pub rows_of_parts : Matter → ℕ → Option DocRow → List PartRows
rows_of_parts m doc None = []
rows_of_parts m doc (Some row) =
    map pieces_of row.values ∷ map (page_rows m doc) (range_with_len 1 row.pages)

-- of the document of a number
abbrev pub document_rows : Matter → ℕ → List PartRows
document_rows m doc = rows_of_parts m doc (doc_with doc m)

-- the part of a number of the document of a number
abbrev pub part_at : Matter → ℕ → ℕ → Part
part_at m doc page =
    record { doc = doc; page = page; rows = slice_index_or (document_rows m doc) page [] }

-- the rows of each document: a valid matter numbers them from 1
abbrev pub documents_of : Matter → List (List PartRows)
documents_of m = map (document_rows m) (range_with_len 1 (length m.docs))

-- parts of a document, numbered from `page` on
abbrev pub parts_of : ℕ → ℕ → List PartRows → List Part
parts_of doc page [] = []
parts_of doc page (rows ∷ more) =
    record { doc = doc; page = page; rows = rows } ∷ parts_of doc (page + 1) more

-- the parts of documents that are numbered from `doc` on, those of the first from `page` on
abbrev pub parts_in : ℕ → ℕ → List (List PartRows) → List Part
parts_in doc page [] = []
parts_in doc page (parts ∷ more) =
    parts_of doc page (drop page parts) ++ parts_in (doc + 1) 0 more

-- the parts from a part of a document on
abbrev pub parts_from : List (List PartRows) → ℕ → ℕ → List Part
parts_from docs doc page = parts_in doc page (drop (doc - 1) docs)
