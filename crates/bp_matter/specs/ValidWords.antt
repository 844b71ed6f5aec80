-- The words of the pages of a valid matter.
use Rattle.std.specs.List.{list_all}
use Rattle.std.specs.Prelude.{Bool, IsTrue, List, Option, ◌&&◌}
use Rattle.bp_core.specs.Sorted.{ascends}
use Rattle.bp_text.specs.declared.words.Word.{Word}
use Rattle.bp_matter.specs.Written.{words_written}
use Rattle.bp_matter.specs.Matter.{words_key}
use Rattle.bp_matter.specs.Texts.{is_word_text}
use Rattle.bp_matter.specs.ValidPages.{are_paged, inside_page, page_in}
use Rattle.bp_matter.specs.declared.rows.DocRow.{DocRow}
use Rattle.bp_matter.specs.declared.rows.PageRow.{PageRow}
use Rattle.bp_matter.specs.declared.rows.PageWords.{PageWords}

-- a word lies inside the page and has a text
abbrev pub word_fits : Option PageRow → Word → Bool
word_fits page word = inside_page page word.rect && is_word_text word.text

-- so do all words of a page
abbrev pub words_fit : List PageRow → PageWords → Bool
words_fit pages row = list_all (word_fits (page_in pages row.doc.0 row.page.0)) row.words

-- the words of a matter with these documents and pages
pub record WordFacts (docs : List DocRow) (pages : List PageRow)
    (words : List PageWords) : Type 0 where
  pub ascend : IsTrue (ascends words_key 0 words)
  pub paged : IsTrue (are_paged words_key docs words)
  pub fit : IsTrue (list_all (words_fit pages) words)
  pub written : IsTrue (list_all words_written words)
