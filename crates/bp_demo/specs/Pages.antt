-- A page that is drawn: white, but for forty words, one on a line, each of which is a black rectangle.
use Rattle.std.specs.Prelude.{ℕ, ◌≡◌, ◌<◌, ◌≤◌, ◌+◌, ◌*◌, List, ◌++◌, codes, length, map, slice_index_or}
use Rattle.std.specs.Fmt.{decimal}
use Rattle.std.specs.List.{range_with_len}
use Rattle.bp_rows.specs.Burned.{burned}
use Rattle.bp_rows.specs.Image.{Image, white_image}
use Rattle.bp_rows.specs.declared.resolution.Res.{Res}
use Rattle.bp_rows.specs.declared.resolution.Unit.TheVariants.{Inch}
use Rattle.bp_text.specs.declared.words.Word.{Word}
use Rattle.bp_demo.specs.Draws.{after_draws, drawn, next}
use Rattle.bp_demo.specs.declared.pages.TheConstants.{LINES, PAGE_DOTS, PAGE_HEIGHT, PAGE_WIDTH}

-- word i of a page, i counted from 0, drawn from this state on: its left side, its width and its
-- number, in this order
abbrev pub word_from : ℕ → ℕ → Word
word_from x i =
    let left = next x in let width = next left in let number = next width in
    record {
      line = i + 1;
      rect = record {
        left = 50 + drawn left 600;
        top = 50 + 25 * i;
        width = 1 + drawn width 150;
        height = 12;
      };
      text = codes "w" ++ decimal (drawn number 1000);
    }

-- the words of a page that is drawn from this state on: three draws for each
unfoldable pub words_drawn : ℕ → List Word
words_drawn x = map (λ i. word_from (after_draws (3 * i) x) i) (range_with_len 0 LINES)

-- the state behind a page that is drawn from this state on
abbrev pub behind_page : ℕ → ℕ
behind_page x = after_draws (3 * LINES) x

-- 100 dots to the inch
abbrev pub demo_dots : Res
demo_dots = record { num = PAGE_DOTS; den = 1 }

-- the page of these words: white, with their rectangles black
unfoldable pub page_image : List Word → Image
page_image words =
    burned (white_image PAGE_WIDTH PAGE_HEIGHT demo_dots demo_dots Inch)
    (map (λ word. word.rect) words)

-- a word stands where word i of a page does, i counted from 0: on its line, and inside the page
pub record StandsAt (i : ℕ) (word : Word) : Type 0 where
  pub top : word.rect.top ≡ 50 + 25 * i
  pub height : word.rect.height ≡ 12
  pub some : 0 < word.rect.width
  pub right : word.rect.left + word.rect.width ≤ PAGE_WIDTH

-- each word stands where its place in the list says
abbrev pub AreLines : List Word → Type 0
AreLines words = (i : ℕ) (d : Word) → i < length words → StandsAt i (slice_index_or words i d)

-- a row passes the words at that place of a page, counted from 0
pub record Passes (row i : ℕ) : Type 0 where
  pub from : 50 + 25 * i ≤ row
  pub to : row < 50 + 25 * i + 12

-- a row passes none of the words
abbrev pub PassesNone : List Word → ℕ → Type 0
PassesNone words row = (i : ℕ) → i < length words → Passes row i → ⊥

-- a row passes this one of the words
pub record PassesWord (words : List Word) (row : ℕ) (word : Word) : Type 0 where
  pub place : ℕ
  pub there : place < length words
  pub is : word ≡ slice_index_or words place word
  pub passes : Passes row place
