-- The words of a batch and the pages that they stand on.
use Rattle.std.specs.Prelude.{ℕ, ◌≡◌, Bool, List, [], ◌∷◌, map, nat_lt, Option, Some, None, Result, Ok, Err, if◌then◌else◌}
use Rattle.std.specs.List.{filter, list_all}
use Rattle.std.specs.Str.{bytes_eq}
use Rattle.bp_core.specs.InTurn.{read_each}
use Rattle.bp_core.specs.Rectangle.{lies_inside}
use Rattle.bp_core.specs.Rules.{rule_at_line}
use Rattle.bp_core.specs.declared.rules.Rule.{Rule}
use Rattle.bp_core.specs.declared.rules.RuleKind.TheVariants.{WordOutside, WordsPage}
use Rattle.bp_load.specs.declared.opt.OptLine.{OptLine}
use Rattle.bp_rows.specs.Image.{Image}
use Rattle.bp_text.specs.declared.words.Word.{Word}
use Rattle.bp_text.specs.declared.words.WordRow.{WordRow}
use Rattle.bp_import.specs.Breaks.{place_of}

-- the line of each word, or the first record whose image id no line has
abbrev pub places_of : List OptLine → List WordRow → Result (List ℕ) Rule
places_of lines rows = read_each (λ row. place_of row.image lines) (rule_at_line WordsPage) 1 rows

-- the words of the page with an image id, in their order
abbrev pub words_on : List ℕ → List WordRow → List Word
words_on image rows = map (λ row. row.word) (filter (λ row. bytes_eq row.image image) rows)

-- the page with an image id
abbrev pub page_on : List ℕ → List OptLine → List Image → Option Image
page_on image [] pages = None
page_on image (line ∷ lines) [] = None
page_on image (line ∷ lines) (page ∷ pages) =
    if bytes_eq line.image image then Some page else page_on image lines pages

-- a word that lies inside its page
abbrev pub word_inside : Option Image → Word → Option Word
word_inside None word = None
word_inside (Some page) word =
    if lies_inside word.rect page.width page.height then Some word else None

-- the word of a record, if it lies inside its page
abbrev pub row_inside : List OptLine → List Image → WordRow → Option Word
row_inside lines pages row = word_inside (page_on row.image lines pages) row.word

-- all words, or the first record whose word doesn't lie inside its page
abbrev pub words_inside : List OptLine → List Image → List WordRow → Result (List Word) Rule
words_inside lines pages rows =
    read_each (row_inside lines pages) (rule_at_line WordOutside) 1 rows

-- what testing the words gave: all lie inside their pages, or the first rule
abbrev pub GivesInside : List OptLine → List Image → List WordRow → Result (Unit {0}) Rule → Type 0
GivesInside lines pages rows (Ok _) =
    words_inside lines pages rows ≡ Ok (map (λ row. row.word) rows)
GivesInside lines pages rows (Err rule) = words_inside lines pages rows ≡ Err rule

-- each place is that of a page
abbrev pub are_places : ℕ → List ℕ → Bool
are_places count places = list_all (λ place. nat_lt place count) places
