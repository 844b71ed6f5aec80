-- Pages, their words and the documents that they belong to.
use Rattle.std.specs.Prelude.{ℕ, List, [], ◌∷◌, map}
use Rattle.bp_load.specs.declared.opt.OptLine.{OptLine}
use Rattle.bp_matter.specs.declared.batches.BatchPage.{BatchPage}
use Rattle.bp_rows.specs.Image.{Image}
use Rattle.bp_text.specs.declared.words.Word.{Word}
use Rattle.bp_text.specs.declared.words.WordRow.{WordRow}
use Rattle.bp_import.specs.WordPages.{words_on}

-- the words of the page of each line, in their order
abbrev pub words_of_lines : List OptLine → List WordRow → List (List Word)
words_of_lines lines rows = map (λ line. words_on line.image rows) lines

-- each page with its words
abbrev pub with_words : List Image → List (List Word) → List BatchPage
with_words [] lists = []
with_words (page ∷ pages) [] = []
with_words (page ∷ pages) (words ∷ lists) =
    record { page = page; words = words } ∷ with_words pages lists
