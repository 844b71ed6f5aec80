-- The glyphs of a text as parts of it: each pixel of the page belongs to one character at most.
use Rattle.std.proofs.Common.{ℕ, ◌≡◌, ◌+◌, ◌-◌, ◌*◌, ◌/◌, ◌%◌, ◌<◌, ◌≤◌, ◌==◌, ◌&&◌, Bool, true, false, nat_le, nat_lt, Option, Some, None, List, [], length, get_or, replicate, refl, sym, ap, ◌∙◌, arith, inl, inr}
use Rattle.std.specs.Prelude.{slice_index_or}
use Rattle.std.specs.Option.{unwrap_or}
use Rattle.std.proofs.lemmas.Grind.{get_or_default_zero}
use Rattle.std.proofs.lemmas.Bool.{and_parts, cases_lt, eq-eqb, le-ltb}
use Rattle.std.proofs.lemmas.Bool.Decides.{nat_tests}
use Rattle.std.proofs.lemmas.List.{get_or-replicate, get_or_past, length-replicate}
use Rattle.std.proofs.lemmas.Nat.Bits.{bit_at-zero}
use Rattle.bp_core.specs.Characters.{space}
use Rattle.bp_codes.specs.Bits.{bit}
use Rattle.bp_codes.specs.Glyphs.{glyph_rows, rows_at}
use Rattle.bp_burn.specs.Drawn.{glyph_bit, is_drawn, row_bit, glyph_lines, text_pixel}
use Rattle.bp_burn.specs.Figures.{glyph_figure}
use Rattle.bp_burn.proofs.AsciiLemmas.{rows_short}
use Rattle.bp_burn.proofs.FigureLemmas.{past_rows}
use Rattle.bp_burn.proofs.InkLemmas.{part}

-- the place of the character that a column of the drawing belongs to
abbrev pub eighteenth : ℕ → ℕ → ℕ
eighteenth left x = (x - left) / 18

none_two : (a b : Bool) → b ≡ false → (a && b) ≡ false
none_two true b none = none
none_two false b none = refl

pub none_three : (a b c : Bool) → c ≡ false → (a && (b && c)) ≡ false
none_three a b c none = none_two a (b && c) (none_two b c none)

none_first : (a b : Bool) → a ≡ false → (a && b) ≡ false
none_first true b none = cc
none_first false b none = refl

is_left : (a x : ℕ) → x < a → nat_le a x ≡ false
is_left a x less = grind (arith, nat_tests)

is_right : (a x : ℕ) → a ≤ x → nat_le a x ≡ true
is_right a x more = grind (arith, nat_tests)

other_place : (j n : ℕ) → (j ≡ n → ⊥) → (j == n) ≡ false
other_place j n other = grind arith

-- a glyph has five columns
no_column : (rows : List ℕ) (g k : ℕ) → 5 ≤ k → glyph_bit rows g k ≡ false
no_column rows g k past = none_first (nat_lt k 5) (bit (slice_index_or rows g 0) (5 - 1 - k)) (le-ltb k 5 past)

same_place : (text : List ℕ) (j n v k m : ℕ) → j ≡ n → k ≡ m
    → glyph_bit (glyph_lines (slice_index_or text n space)) v m ≡ glyph_bit (glyph_lines (slice_index_or text j space)) v k
same_place text j n v k m place column =
    ap (λ i. glyph_bit (glyph_lines (slice_index_or text i space)) v m) (sym place)
    ∙ ap (glyph_bit (glyph_lines (slice_index_or text j space)) v) (sym column)

-- a glyph is its part of the text
pub glyph_part_of : (text : List ℕ) (top left hidden n r c : ℕ)
    → glyph_figure (glyph_lines (slice_index_or text n space)) top (left + 18 * n) hidden r c ≡ part (λ r c. eighteenth left (c + hidden)) (is_drawn text top left hidden) n r c
glyph_part_of text top left hidden n r c =
    let x = c + hidden in
    let at = left + 18 * n in
    let g = (r - top) / 3 in
    let mine = glyph_bit (glyph_lines (slice_index_or text n space)) g ((x - at) / 3) in
    let theirs = glyph_bit (glyph_lines (slice_index_or text (eighteenth left x) space)) g ((x - left) % 18 / 3) in
    elim (cases_lt x at) [
      | inl before ↦
          none_two (nat_le top r) (nat_le at x && mine) (none_first (nat_le at x) mine (is_left at x before))
          ∙ sym (elim (cases_lt x left) [
            | inl outside ↦ none_two (eighteenth left x == n) (nat_le top r && (nat_le left x && theirs)) (none_two (nat_le top r) (nat_le left x && theirs) (none_first (nat_le left x) theirs (is_left left x outside)))
            | inr inside ↦ none_first (eighteenth left x == n) (nat_le top r && (nat_le left x && theirs)) (other_place (eighteenth left x) n (λ e. omega arith))
          ])
      | inr from ↦ elim (cases_lt x (at + 18)) [
        | inl within ↦
            let place : eighteenth left x ≡ n = omega arith in
            let column : (x - left) % 18 ≡ x - at = omega arith in
            ap (λ b. nat_le top r && (b && mine)) (is_right at x from)
            ∙ ap (λ b. nat_le top r && b) (same_place text (eighteenth left x) n g ((x - left) % 18 / 3) ((x - at) / 3) place (ap (λ k. k / 3) column))
            ∙ sym (ap (λ b. b && (nat_le top r && (nat_le left x && theirs))) (eq-eqb (eighteenth left x) n place)
            ∙ ap (λ b. nat_le top r && (b && theirs)) (is_right left x (omega arith)))
        | inr after ↦
            none_three (nat_le top r) (nat_le at x) mine (no_column (glyph_lines (slice_index_or text n space)) g ((x - at) / 3) (omega arith))
            ∙ sym (none_first (eighteenth left x == n) (nat_le top r && (nat_le left x && theirs)) (other_place (eighteenth left x) n (λ e. omega arith)))
      ]
    ]

-- a character without a glyph has no pixel
pub no_glyph_part : (text : List ℕ) (top left hidden n r c : ℕ) → glyph_lines (slice_index_or text n space) ≡ []
    → part (λ r c. eighteenth left (c + hidden)) (is_drawn text top left hidden) n r c ≡ false
no_glyph_part text top left hidden n r c none =
    sym (glyph_part_of text top left hidden n r c)
    ∙ none_three (nat_le top r) (nat_le (left + 18 * n) (c + hidden)) (glyph_bit (glyph_lines (slice_index_or text n space)) ((r - top) / 3) ((c + hidden - (left + 18 * n)) / 3))
    (ap (λ rows. glyph_bit rows ((r - top) / 3) ((c + hidden - (left + 18 * n)) / 3)) none ∙ zero_bit ((c + hidden - (left + 18 * n)) / 3))
  where
    zero_bit : (k : ℕ) → row_bit 0 k ≡ false
    zero_bit k = none_two (nat_lt k 5) (bit 0 (5 - 1 - k)) (ap (λ n. n == 1) (bit_at-zero (5 - 1 - k)))

-- ---- the rows that a table has for a character of a text

found_rows : (found : Option (List ℕ)) (text : List ℕ) (n c : ℕ) (table : List (List ℕ)) → n < length text → c ≡ get_or text n 0
    → table ≡ glyph_rows → found ≡ rows_at table c → glyph_lines (slice_index_or text n space) ≡ unwrap_or found []
found_rows found text n c table within is all found_is =
    ap glyph_lines (get_or_default_zero text n space within ∙ sym is)
    ∙ ap (λ rows. unwrap_or (rows_at rows c) []) (sym all) ∙ ap (λ rows. unwrap_or rows []) (sym found_is)

pub some_rows : (found : Option (List ℕ)) (rows text : List ℕ) (n c : ℕ) (table : List (List ℕ)) → n < length text → c ≡ get_or text n 0
    → table ≡ glyph_rows → found ≡ rows_at table c → found ≡ Some rows → glyph_lines (slice_index_or text n space) ≡ rows
some_rows found rows text n c table within is all found_is there =
    found_rows found text n c table within is all found_is ∙ ap (λ o. unwrap_or o []) there

pub no_rows : (found : Option (List ℕ)) (text : List ℕ) (n c : ℕ) (table : List (List ℕ)) → n < length text → c ≡ get_or text n 0
    → table ≡ glyph_rows → found ≡ rows_at table c → found ≡ None → glyph_lines (slice_index_or text n space) ≡ []
no_rows found text n c table within is all found_is none =
    found_rows found text n c table within is all found_is ∙ ap (λ o. unwrap_or o []) none

-- ---- past its end a text has spaces, which have no pixel

abbrev zeros : List ℕ
zeros = replicate 7 0

space_rows : glyph_lines space ≡ zeros
unfolding glyph_rows
space_rows = refl

white_rows : (g : ℕ) → get_or zeros g 0 ≡ (let n : ℕ = 0 in n)
white_rows g =
    elim (cases_lt g 7) [
      | inl within ↦ get_or-replicate 7 g 0 0 within
      | inr past ↦ get_or_past zeros g 0 (omega (arith, length-replicate {A = ℕ} 7 0))
    ]

space_bit : (g k : ℕ) → glyph_bit (glyph_lines space) g k ≡ false
space_bit g k =
    ap (λ rows. glyph_bit rows g k) space_rows ∙ ap (λ row. row_bit row k) (white_rows g)
    ∙ none_two (nat_lt k 5) (bit 0 (5 - 1 - k)) (ap (λ n. n == 1) (bit_at-zero (5 - 1 - k)))

-- a pixel past the text's end is white
pub past_text : (text : List ℕ) (v u : ℕ) → length text ≤ u / 18 → text_pixel text v u ≡ false
past_text text v u past =
    ap (λ c. glyph_bit (glyph_lines c) (v / 3) (u % 18 / 3)) (get_or_past text (u / 18) space past) ∙ space_bit (v / 3) (u % 18 / 3)

-- nor has a character without a glyph any
pub no_rows_pixel : (text : List ℕ) (v u : ℕ) → glyph_lines (slice_index_or text (u / 18) space) ≡ [] → text_pixel text v u ≡ false
no_rows_pixel text v u none =
    ap (λ rows. glyph_bit rows (v / 3) (u % 18 / 3)) none
    ∙ none_two (nat_lt (u % 18 / 3) 5) (bit 0 (5 - 1 - u % 18 / 3)) (ap (λ n. n == 1) (bit_at-zero (5 - 1 - u % 18 / 3)))

pub pixel_within : (text : List ℕ) (v u : ℕ) → text_pixel text v u ≡ true → u / 18 < length text
pixel_within text v u black =
    elim (cases_lt (u / 18) (length text)) [
      | inl within ↦ within
      | inr past ↦ let both : true ≡ false = sym black ∙ past_text text v u past in cc
    ]

-- a black pixel belongs to a character of the text
pub text_within : (text : List ℕ) (top left hidden r c : ℕ) → is_drawn text top left hidden r c ≡ true → eighteenth left (c + hidden) < length text
text_within text top left hidden r c is =
    let x = c + hidden in
    let columns = (and_parts (nat_le top r) (nat_le left x && text_pixel text (r - top) (x - left)) is).1 in
    let black = (and_parts (nat_le left x) (text_pixel text (r - top) (x - left)) columns).1 in
    pixel_within text (r - top) (x - left) black

-- a text has 21 rows
pub drawn_above : (text : List ℕ) (top left hidden r c : ℕ) → top + 21 ≤ r → is_drawn text top left hidden r c ≡ false
drawn_above text top left hidden r c past =
    let rows = glyph_lines (slice_index_or text ((c + hidden - left) / 18) space) in
    let k = (c + hidden - left) % 18 / 3 in
    let below : 7 ≤ (r - top) / 3 = omega arith in
    none_three (nat_le top r) (nat_le left (c + hidden)) (glyph_bit rows ((r - top) / 3) k)
    (past_rows rows ((r - top) / 3) k (omega (arith, rows_short (slice_index_or text ((c + hidden - left) / 18) space))))
