-- What holds of every batch: what a valid matter asks of the rows that it becomes, but for the
-- limits of the matter.
use Rattle.std.specs.Prelude.{ℕ, ◌+◌, ◌==◌, ◌&&◌, ◌||◌, Bool, true, List, [], ◌∷◌, length, nat_le, IsTrue}
use Rattle.std.specs.List.{list_all}
use Rattle.bp_core.specs.Rectangle.{lies_inside}
use Rattle.bp_rows.specs.Limits.{sides_are_imported}
use Rattle.bp_text.specs.declared.words.Word.{Word}
use Rattle.bp_matter.specs.Texts.{is_batch_name, is_field_name, is_value, is_id_of_doc, is_word_text}
use Rattle.bp_matter.specs.ValidProductions.{itself}
use Rattle.bp_core.specs.Differing.{all_differ}
use Rattle.bp_matter.specs.Written.{are_few, image_written, is_short, is_word, word_written}
use Rattle.bp_matter.specs.declared.batches.BatchDoc.{BatchDoc}
use Rattle.bp_matter.specs.declared.batches.BatchPage.{BatchPage}

-- what contracts see of a batch
pub record BatchShown : Type 0 where
  pub name : List ℕ
  pub digest : List ℕ
  pub fields : List (List ℕ)
  pub docs : List BatchDoc

-- each document is a parent itself, or has the parent of the document before it; places count
-- from n
abbrev pub parents_stand : ℕ → ℕ → List BatchDoc → Bool
parents_stand n before [] = true
parents_stand n before (doc ∷ docs) =
    ((doc.parent == n) || (doc.parent == before)) && parents_stand (n + 1) doc.parent docs

-- a word lies inside its page and has a text
abbrev pub batch_word_fits : BatchPage → Word → Bool
batch_word_fits p word = lies_inside word.rect p.page.width p.page.height && is_word_text word.text

-- the sides of a page that comes in, and words that lie inside it
abbrev pub batch_page_fits : BatchPage → Bool
batch_page_fits p =
    sides_are_imported p.page.width p.page.height && list_all (batch_word_fits p) p.words

-- a document has a page, and a value for each of so many fields
abbrev pub batch_doc_fits : ℕ → BatchDoc → Bool
batch_doc_fits fields doc =
    nat_le 1 (length doc.pages) && (length doc.values == fields) && is_id_of_doc doc.id
    && list_all is_value doc.values && list_all batch_page_fits doc.pages

-- so many pages in all
abbrev pub pages_in : List BatchDoc → ℕ
pages_in [] = 0
pages_in (doc ∷ docs) = length doc.pages + pages_in docs

-- its pages, words and texts have a writing
abbrev pub batch_page_written : BatchPage → Bool
batch_page_written p = image_written p.page && are_few word_written p.words

-- and so have its documents
abbrev pub batch_doc_written : BatchDoc → Bool
batch_doc_written doc =
    is_word doc.parent && is_short doc.id && are_few is_short doc.values
    && list_all batch_page_written doc.pages

-- what always holds of a batch
pub record IsBatch (b : BatchShown) : Type 0 where
  pub name : IsTrue (is_batch_name b.name)
  pub digest : IsTrue (length b.digest == 32)
  pub fields : IsTrue (list_all is_field_name b.fields)
  pub names_differ : IsTrue (all_differ itself b.fields)
  pub families : IsTrue (parents_stand 1 1 b.docs)
  pub docs : IsTrue (list_all (batch_doc_fits (length b.fields)) b.docs)
  pub few_fields : IsTrue (are_few is_short b.fields)
  pub few_docs : IsTrue (is_word (length b.docs))
  pub few_pages : IsTrue (is_word (pages_in b.docs))
  pub written : IsTrue (list_all batch_doc_written b.docs)
