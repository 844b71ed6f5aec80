-- A drawn page is one that may come in: its words lie inside it, and it has a writing.
use Rattle.std.proofs.Common.{◌≡◌, ℕ, zero, suc, ◌+◌, ◌*◌, ◌%◌, ◌/◌, ◌<◌, ◌≤◌, ◌^◌, ◌&&◌, Bool, true, List, map, refl, ap, arith}
use Rattle.std.specs.List.{list_all, range_with_len}
use Rattle.std.proofs.lemmas.Bool.{and_from, le-leb, lt-ltb}
use Rattle.std.proofs.lemmas.List.FromFn.{length-map-range_with_len}
use Rattle.bp_core.specs.Rectangle.{lies_inside}
use Rattle.bp_core.specs.declared.rectangle.Rect.{Rect}
use Rattle.bp_rows.specs.Burned.{burned}
use Rattle.bp_rows.specs.Image.{IsPage, white_image}
use Rattle.bp_rows.specs.Limits.{sides_are_allowed, sides_are_imported}
use Rattle.bp_rows.specs.declared.resolution.Res.{Res}
use Rattle.bp_rows.specs.declared.resolution.Unit.TheVariants.{Inch}
use Rattle.bp_rows.proofs.BurnedLemmas.{burned_is_grid}
use Rattle.bp_text.specs.declared.words.Word.{Word}
use Rattle.bp_matter.specs.Batches.{batch_page_fits, batch_page_written, batch_word_fits}
use Rattle.bp_matter.specs.Texts.{is_word_text}
use Rattle.bp_matter.specs.Written.{are_few, image_written, is_word, rect_written, word_written}
use Rattle.bp_matter.proofs.ImageLemmas.{page_lines}
use Rattle.bp_demo.specs.Documents.{page_from}
use Rattle.bp_demo.specs.Draws.{after_draws, drawn, next}
use Rattle.bp_demo.specs.Pages.{demo_dots, page_image, words_drawn, word_from}
use Rattle.bp_demo.proofs.TextLemmas.{word_text_fits, word_text_short}

-- ---- one word

below_mod : (y n : ℕ) → 0 < n → y % n < n
below_mod y n some = omega arith

pub drawn_below : (x n : ℕ) → 0 < n → drawn x n < n
drawn_below x n some = below_mod (x / 2 ^ 33) n some

abbrev box : ℕ → ℕ → ℕ → Rect
box a b i = record { left = 50 + a; top = 50 + 25 * i; width = 1 + b; height = 12 }

box_inside : (a b i : ℕ) → a < 600 → b < 150 → i < 40 → lies_inside (box a b i) 850 1100 ≡ true
box_inside a b i left width line = and_from _ _ (le-leb ((50 + a) + (1 + b)) 850 (omega arith)) (le-leb ((50 + 25 * i) + 12) 1100 (omega arith))

word_number : (n : ℕ) → n < 4294967296 → is_word n ≡ true
word_number n small = lt-ltb n (2 ^ 32) small

box_written : (a b i : ℕ) → a < 600 → b < 150 → i < 40 → rect_written (box a b i) ≡ true
box_written a b i left width line =
    and_from _ _ (word_number (50 + a) (omega arith))
    (and_from _ _ (word_number (50 + 25 * i) (omega arith)) (and_from _ _ (word_number (1 + b) (omega arith)) refl))

small_number : (n : ℕ) → n < 1000 → n < 2 ^ 64
small_number n small = omega arith

short_number : (n : ℕ) → n < 1000 → n < 4294967296
short_number n small = omega arith

pub word_fits : (x i : ℕ) → i < 40 → (lies_inside (word_from x i).rect 850 1100 && is_word_text (word_from x i).text) ≡ true
word_fits x i line =
    and_from _ _ (box_inside (drawn (next x) 600) (drawn (next (next x)) 150) i (drawn_below (next x) 600 (omega arith)) (drawn_below (next (next x)) 150 (omega arith)) line)
    (word_text_fits (drawn (next (next (next x))) 1000) (small_number (drawn (next (next (next x))) 1000) (drawn_below (next (next (next x))) 1000 (omega arith))))

pub word_is_written : (x i : ℕ) → i < 40 → word_written (word_from x i) ≡ true
word_is_written x i line =
    and_from _ _ (word_number (i + 1) (omega arith))
    (and_from _ _ (box_written (drawn (next x) 600) (drawn (next (next x)) 150) i (drawn_below (next x) 600 (omega arith)) (drawn_below (next (next x)) 150 (omega arith)) line)
    (word_text_short (drawn (next (next (next x))) 1000) (short_number (drawn (next (next (next x))) 1000) (drawn_below (next (next (next x))) 1000 (omega arith)))))

-- ---- all words of a page

all_of_range : {X : Type 0} (p : X → Bool) (f : ℕ → X) (a n : ℕ) → ((i : ℕ) → a ≤ i → i < a + n → p (f i) ≡ true) → list_all p (map f (range_with_len a n)) ≡ true
all_of_range p f a zero each = refl
all_of_range p f a (suc n) each =
    and_from (p (f a)) _ (each a (omega arith) (omega arith)) (all_of_range p f (a + 1) n (λ i from to. each i (omega arith) (omega arith)))

-- ---- the page

burned_is_page : (w h : ℕ) (dots : Res) (boxes : List Rect) → sides_are_allowed w h ≡ true → dots.num < 4294967296 → dots.den < 4294967296 → IsPage (burned (white_image w h dots dots Inch) boxes)
burned_is_page w h dots boxes sides num den = record {
  sides = sides;
  xres = record { num = num; den = den };
  yres = record { num = num; den = den };
  grid = burned_is_grid (white_image w h dots dots Inch) boxes;
}

pub image_is_page : (words : List Word) → IsPage (page_image words)
unfolding page_image
image_is_page words = burned_is_page 850 1100 demo_dots (map (λ word. word.rect) words) refl (omega arith) (omega arith)

pub page_fits : (x : ℕ) → batch_page_fits (page_from x) ≡ true
unfolding page_image words_drawn
page_fits x =
    and_from (sides_are_imported 850 1100) _ refl
    (all_of_range (batch_word_fits (page_from x)) (λ i. word_from (after_draws (3 * i) x) i) 0 40 (λ i from line. word_fits (after_draws (3 * i) x) i line))

image_has_writing : (words : List Word) → image_written (page_image words) ≡ true
unfolding page_image
image_has_writing words =
    and_from (is_word 850) _ refl (and_from (is_word 1100) _ refl
    (and_from (is_word 100) _ refl (and_from (is_word 1) _ refl
    (and_from (is_word 100) _ refl (and_from (is_word 1) _ refl (page_lines (page_image words) (image_is_page words)))))))

words_have_writing : (x : ℕ) → are_few word_written (words_drawn x) ≡ true
unfolding words_drawn
words_have_writing x =
    let word : ℕ → Word = λ i. word_from (after_draws (3 * i) x) i in
    and_from _ _ (all_of_range word_written word 0 40 (λ i from line. word_is_written (after_draws (3 * i) x) i line))
    (ap is_word (length-map-range_with_len word 0 40))

pub page_written : (x : ℕ) → batch_page_written (page_from x) ≡ true
page_written x = and_from _ _ (image_has_writing (words_drawn x)) (words_have_writing x)
