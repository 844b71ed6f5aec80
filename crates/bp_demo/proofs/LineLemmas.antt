-- The rows of a drawn page: each is white, or passes one word.
use Rattle.std.proofs.Common.{◌≡◌, ℕ, zero, suc, ◌+◌, ◌*◌, ◌<◌, ◌≤◌, ◌||◌, inl, inr, Bool, true, false, List, [], ◌∷◌, ◌++◌, map, length, replicate, slice_index_or, take, refl, sym, ap, ◌∙◌, subst, arith}
use Rattle.std.specs.List.{range_with_len}
use Rattle.std.proofs.lemmas.Bool.{and_from, and_left, and_right, le-leb, le-ltb, lt-leb, lt-ltb, cases_lt, or_from}
use Rattle.std.proofs.lemmas.List.{get_or-replicate, take_all, take_more}
use Rattle.std.proofs.lemmas.List.FromFn.{get_or-map-range_with_len, length-map-range_with_len}
use Rattle.bp_core.specs.Rectangle.{has_pixel}
use Rattle.bp_core.specs.declared.rectangle.Rect.{Rect}
use Rattle.bp_rows.specs.Burned.{burned, covers_pixel}
use Rattle.bp_rows.specs.Changes.{Rises, Shows, odd, place_at}
use Rattle.bp_rows.specs.Image.{pixel, row_of, white_image}
use Rattle.bp_rows.specs.declared.resolution.Res.{Res}
use Rattle.bp_rows.specs.declared.resolution.Unit.TheVariants.{Inch}
use Rattle.bp_rows.proofs.BurnedLemmas.{burned_is_grid, pixel-burned}
use Rattle.bp_text.specs.declared.words.Word.{Word}
use Rattle.bp_demo.specs.Draws.{after_draws, next}
use Rattle.bp_demo.specs.Pages.{AreLines, PassesNone, PassesWord, StandsAt, demo_dots, page_image, words_drawn, word_from}
use Rattle.bp_demo.proofs.PageLemmas.{drawn_below}

-- ---- the pixels of one word

above_word : (i : ℕ) (word : Word) (r c : ℕ) → StandsAt i word → r < 50 + 25 * i → has_pixel word.rect r c ≡ false
above_word i word r c stands above =
    and_left _ _ (and_left _ _ (and_left _ _ (lt-leb word.rect.top r (omega (arith, stands.top, above)))))

below_word : (i : ℕ) (word : Word) (r c : ℕ) → StandsAt i word → 50 + 25 * i + 12 ≤ r → has_pixel word.rect r c ≡ false
below_word i word r c stands below =
    and_left _ _ (and_left _ _ (and_right _ _ (le-ltb r (word.rect.top + word.rect.height) (omega (arith, stands.top, stands.height, below)))))

left_of_word : (word : Word) (r c : ℕ) → c < word.rect.left → has_pixel word.rect r c ≡ false
left_of_word word r c left = and_left _ _ (and_right _ _ (lt-leb word.rect.left c left))

right_of_word : (word : Word) (r c : ℕ) → word.rect.left + word.rect.width ≤ c → has_pixel word.rect r c ≡ false
right_of_word word r c right = and_right _ _ (le-ltb c (word.rect.left + word.rect.width) right)

in_word : (i : ℕ) (word : Word) (r c : ℕ) → StandsAt i word → 50 + 25 * i ≤ r → r < 50 + 25 * i + 12
    → word.rect.left ≤ c → c < word.rect.left + word.rect.width → has_pixel word.rect r c ≡ true
in_word i word r c stands from to left right =
    and_from _ _ (and_from _ _ (and_from _ _ (le-leb word.rect.top r (omega (arith, stands.top, from)))
    (lt-ltb r (word.rect.top + word.rect.height) (omega (arith, stands.top, stands.height, to))))
    (le-leb word.rect.left c left))
    (lt-ltb c (word.rect.left + word.rect.width) right)

-- ---- the pixels of all words

-- words that stand from word `base` of a page on
abbrev StandFrom : ℕ → List Word → Type 0
StandFrom base words = (i : ℕ) (d : Word) → i < length words → StandsAt (base + i) (slice_index_or words i d)

behind_first : (base : ℕ) (word : Word) (words : List Word) → StandFrom base (word ∷ words) → StandFrom (base + 1) words
behind_first base word words stand i d less =
    let next : base + suc i ≡ base + 1 + i = omega arith in
    subst (λ (n : ℕ). StandsAt n (slice_index_or words i d)) next (stand (suc i) d (omega (arith, less)))

first_stands : (base : ℕ) (word : Word) (words : List Word) → StandFrom base (word ∷ words) → StandsAt base word
first_stands base word words stand =
    let same : base + 0 ≡ base = omega arith in
    subst (λ (n : ℕ). StandsAt n word) same (stand 0 word (omega arith))

outside_word : (i : ℕ) (word : Word) (r c : ℕ) → StandsAt i word → (50 + 25 * i ≤ r → r < 50 + 25 * i + 12 → ⊥) → has_pixel word.rect r c ≡ false
outside_word i word r c stands outside =
    elim (cases_lt r (50 + 25 * i)) [
      | inl above ↦ above_word i word r c stands above
      | inr from ↦
          elim (cases_lt r (50 + 25 * i + 12)) [
            | inl to ↦ absurd (outside from to)
            | inr below ↦ below_word i word r c stands below
          ]
    ]

from_first : (words : List Word) → AreLines words → StandFrom 0 words
from_first words stand i d less =
    let same : i ≡ 0 + i = omega arith in
    subst (λ (n : ℕ). StandsAt n (slice_index_or words i d)) same (stand i d less)

-- no word passes a row that lies above or below each
no_word : (base : ℕ) (words : List Word) (r c : ℕ) → StandFrom base words
    → ((i : ℕ) → i < length words → (50 + 25 * (base + i) ≤ r) → (r < 50 + 25 * (base + i) + 12) → ⊥)
    → covers_pixel (map (λ word. word.rect) words) r c ≡ false
no_word base [] r c stand outside = refl
no_word base (word ∷ words) r c stand outside =
    or_from _ _ (outside_word base word r c (first_stands base word words stand)
    (λ from to. outside 0 (omega arith) (omega (arith, from)) (omega (arith, to))))
    (no_word (base + 1) words r c (behind_first base word words stand)
    (λ i less from to. outside (suc i) (omega (arith, less)) (omega (arith, from)) (omega (arith, to))))

or_none : (x : Bool) → (x || false) ≡ x
or_none true = refl
or_none false = refl

-- a row that passes a word passes no other
only_word : (base : ℕ) (words : List Word) (i r c : ℕ) (d : Word) → StandFrom base words → i < length words
    → 50 + 25 * (base + i) ≤ r → r < 50 + 25 * (base + i) + 12
    → covers_pixel (map (λ word. word.rect) words) r c ≡ has_pixel (slice_index_or words i d).rect r c
only_word base [] i r c d stand less from to = absurd (omega (arith, less))
only_word base (word ∷ words) zero r c d stand less from to =
    ap (λ b. has_pixel word.rect r c || b)
    (no_word (base + 1) words r c (behind_first base word words stand) (λ k inside up down. omega (arith, up, to)))
    ∙ or_none (has_pixel word.rect r c)
only_word base (word ∷ words) (suc i) r c d stand less from to =
    ap (λ b. b || covers_pixel (map (λ word. word.rect) words) r c) (below_word base word r c (first_stands base word words stand) (omega (arith, from)))
    ∙ only_word (base + 1) words i r c d (behind_first base word words stand) (omega (arith, less)) (omega (arith, from)) (omega (arith, to))

-- ---- the pixels of a page

white_pixel : (w h : ℕ) (dots : Res) (r c : ℕ) → r < h → c < w → pixel (white_image w h dots dots Inch) r c ≡ false
white_pixel w h dots r c down across =
    ap (λ row. slice_index_or row c false) (get_or-replicate h r (replicate w false) [] down) ∙ get_or-replicate w c false false across

black_pixel : (w h : ℕ) (dots : Res) (boxes : List Rect) (r c : ℕ) → r < h → c < w
    → pixel (burned (white_image w h dots dots Inch) boxes) r c ≡ covers_pixel boxes r c
black_pixel w h dots boxes r c down across =
    pixel-burned (white_image w h dots dots Inch) boxes r c down across
    ∙ ap (λ b. covers_pixel boxes r c || b) (white_pixel w h dots r c down across) ∙ or_none (covers_pixel boxes r c)

page_pixel : (words : List Word) (r c : ℕ) → r < 1100 → c < 850 → pixel (page_image words) r c ≡ covers_pixel (map (λ word. word.rect) words) r c
unfolding page_image
page_pixel words r c down across = black_pixel 850 1100 demo_dots (map (λ word. word.rect) words) r c down across

row_long : (words : List Word) (r : ℕ) → r < 1100 → length (row_of (page_image words) r) ≡ 850
unfolding page_image
row_long words r down = (burned_is_grid (white_image 850 1100 demo_dots demo_dots Inch) (map (λ word. word.rect) words)).across r down

-- ---- the places of a row

none_rises : (width : ℕ) → Rises [] width
none_rises width = record {
  within = λ k. omega arith;
  rising = λ k less. absurd (omega (arith, less));
  end = λ k e. refl;
}

two_within : (l m width : ℕ) → l < m → m ≤ width → (k : ℕ) → place_at (l ∷ m ∷ []) width k ≤ width
two_within l m width order within zero = omega (arith, order, within)
two_within l m width order within (suc zero) = within
two_within l m width order within (suc (suc k)) = omega arith

two_rising : (l m width : ℕ) → l < m → m ≤ width → (k : ℕ)
    → place_at (l ∷ m ∷ []) width k < width → place_at (l ∷ m ∷ []) width k < place_at (l ∷ m ∷ []) width (suc k)
two_rising l m width order within zero less = order
two_rising l m width order within (suc zero) less = less
two_rising l m width order within (suc (suc k)) less = less

two_end : (l m width : ℕ) → l < m → m ≤ width → (k : ℕ)
    → place_at (l ∷ m ∷ []) width k ≡ width → place_at (l ∷ m ∷ []) width (suc k) ≡ width
two_end l m width order within zero e = absurd (omega (arith, order, within, e))
two_end l m width order within (suc zero) e = refl
two_end l m width order within (suc (suc k)) e = refl

two_rises : (l m width : ℕ) → l < m → m ≤ width → Rises (l ∷ m ∷ []) width
two_rises l m width order within = record {
  within = two_within l m width order within;
  rising = λ k less.
      let next : suc k ≡ k + 1 = omega arith in
      subst (λ (n : ℕ). place_at (l ∷ m ∷ []) width k < place_at (l ∷ m ∷ []) width n) next (two_rising l m width order within k less);
  end = λ k e.
      let next : suc k ≡ k + 1 = omega arith in
      subst (λ (n : ℕ). place_at (l ∷ m ∷ []) width n ≡ width) next (two_end l m width order within k e);
}

white_colour : (words : List Word) (r : ℕ) → AreLines words → r < 1100
    → ((i : ℕ) → i < length words → 50 + 25 * i ≤ r → r < 50 + 25 * i + 12 → ⊥)
    → (k i : ℕ) → ((j : ℕ) → j + 1 ≡ k → place_at [] 850 j ≤ i) → i < place_at [] 850 k
    → slice_index_or (row_of (page_image words) r) i false ≡ odd k
white_colour words r stand down outside zero i before below =
    page_pixel words r i down below ∙ no_word 0 words r i (from_first words stand)
    (λ n less up down. outside n less (omega (arith, up)) (omega (arith, down)))
white_colour words r stand down outside (suc k) i before below = absurd (omega (arith, below, before k (omega arith)))

-- a row that no word passes
pub white_row : (words : List Word) (r : ℕ) → AreLines words → r < 1100 → PassesNone words r → Shows [] 850 (row_of (page_image words) r)
white_row words r stand down none = record {
  long = row_long words r down;
  rises = none_rises 850;
  colour = white_colour words r stand down (λ i less from to. none i less (record { from = from; to = to }));
}

word_colour : (words : List Word) (word : Word) (n r : ℕ) → StandsAt n word → 50 + 25 * n ≤ r → r < 50 + 25 * n + 12
    → ((c : ℕ) → c < 850 → pixel (page_image words) r c ≡ has_pixel word.rect r c)
    → (k i : ℕ) → ((j : ℕ) → j + 1 ≡ k → place_at (word.rect.left ∷ (word.rect.left + word.rect.width) ∷ []) 850 j ≤ i)
    → i < place_at (word.rect.left ∷ (word.rect.left + word.rect.width) ∷ []) 850 k
    → slice_index_or (row_of (page_image words) r) i false ≡ odd k
word_colour words word n r stands from to only zero i before below =
    only i (omega (arith, below, stands.right)) ∙ left_of_word word r i below
word_colour words word n r stands from to only (suc zero) i before below =
    only i (omega (arith, below, stands.right)) ∙ in_word n word r i stands from to (before 0 (omega arith)) below
word_colour words word n r stands from to only (suc (suc zero)) i before below =
    only i below ∙ right_of_word word r i (before 1 (omega arith))
word_colour words word n r stands from to only (suc (suc (suc k))) i before below =
    absurd (omega (arith, below, before (suc (suc k)) (omega arith)))

-- a row that passes a word
pub word_row : (words : List Word) (word : Word) (r : ℕ) → AreLines words → r < 1100 → PassesWord words r word
    → Shows (word.rect.left ∷ (word.rect.left + word.rect.width) ∷ []) 850 (row_of (page_image words) r)
word_row words word r stand down there =
    let n = there.place in
    let less = there.there in
    let is = there.is in
    let from = there.passes.from in
    let to = there.passes.to in
    let stands : StandsAt n word = subst (StandsAt n) (sym is) (stand n word less) in
    let only : (c : ℕ) → c < 850 → pixel (page_image words) r c ≡ has_pixel word.rect r c =
    λ c across. page_pixel words r c down across ∙ only_word 0 words n r c word (from_first words stand) less (omega (arith, from)) (omega (arith, to)) ∙ ap (λ (w : Word). has_pixel w.rect r c) (sym is) in
    record {
      long = row_long words r down;
      rises = two_rises word.rect.left (word.rect.left + word.rect.width) 850 (omega (arith, stands.some)) stands.right;
      colour = word_colour words word n r stands from to only;
    }

pub word_right : (words : List Word) (word : Word) (r : ℕ) → AreLines words → PassesWord words r word → word.rect.left + word.rect.width ≤ 850
word_right words word r stand there =
    let stands : StandsAt there.place word = subst (StandsAt there.place) (sym there.is) (stand there.place word there.there) in
    stands.right

-- ---- the rows of a page, one after another

rows_down : (words : List Word) → length (page_image words).rows ≡ 1100
unfolding page_image
rows_down words = (burned_is_grid (white_image 850 1100 demo_dots demo_dots Inch) (map (λ word. word.rect) words)).down

pub page_wide : (words : List Word) → (page_image words).width ≡ 850
unfolding page_image
page_wide words = refl

pub one_row_more : (words : List Word) (r : ℕ) → r < 1100 → take (r + 1) (page_image words).rows ≡ take r (page_image words).rows ++ row_of (page_image words) r ∷ []
one_row_more words r down = take_more (page_image words).rows r [] (omega (arith, rows_down words, down))

pub all_rows : (words : List Word) (r : ℕ) → r ≡ 1100 → take r (page_image words).rows ≡ (page_image words).rows
all_rows words r last = take_all r (page_image words).rows (omega (arith, rows_down words, last))

-- ---- the words that are drawn

word_stands : (x i : ℕ) → StandsAt i (word_from x i)
word_stands x i = record {
  top = refl;
  height = refl;
  some = omega arith;
  right = omega (arith, drawn_below (next x) 600 (omega arith), drawn_below (next (next x)) 150 (omega arith));
}

pub drawn_are_lines : (x : ℕ) → AreLines (words_drawn x)
unfolding words_drawn
drawn_are_lines x i d less =
    let long : length (map (λ i. word_from (after_draws (3 * i) x) i) (range_with_len 0 40)) ≡ 40 = length-map-range_with_len (λ i. word_from (after_draws (3 * i) x) i) 0 40 in
    subst (StandsAt i) (sym (get_or-map-range_with_len (λ i. word_from (after_draws (3 * i) x) i) 0 40 i i d (omega (arith, less, long)) (omega arith))) (word_stands (after_draws (3 * i) x) i)
