-- The bits, rows and glyphs of a text as parts of the whole: each pixel of the page belongs to one
-- of them.
use Rattle.std.proofs.Common.{ℕ, ◌≡◌, ◌+◌, ◌-◌, ◌*◌, ◌/◌, ◌<◌, ◌≤◌, ◌==◌, ◌&&◌, Bool, true, false, nat_le, nat_lt, min, List, [], ◌∷◌, length, refl, sym, ap, ◌∙◌, arith, inl, inr}
use Rattle.std.specs.Prelude.{slice_index_or}
use Rattle.std.proofs.lemmas.Bool.{and_parts, cases_lt, eqb-true, ltb-true}
use Rattle.std.proofs.lemmas.List.{get_or_past}
use Rattle.std.proofs.lemmas.Nat.Bits.{bit_at-zero}
use Rattle.std.proofs.lemmas.Bool.Decides.{nat_tests}
use Rattle.bp_burn.specs.Drawn.{glyph_bit, row_bit}
use Rattle.bp_burn.specs.Figures.{bit_figure, glyph_figure, row_figure}
use Rattle.bp_codes.specs.Bits.{bit}
use Rattle.bp_rows.specs.Burned.{covers_pixel}
use Rattle.bp_rows.specs.Image.{Image}
use Rattle.bp_burn.specs.Ink.{inked}
use Rattle.bp_burn.proofs.BoxPartLemmas.{and_or}
use Rattle.bp_burn.proofs.InkLemmas.{inked-alike, part}

-- a place is in the n-th three after a start
pub in_three : (start x n : ℕ) → (nat_le (start + 3 * n) x && nat_lt x (start + 3 * n + 3)) ≡ (nat_le start x && ((x - start) / 3 == n))
in_three start x n = grind (arith, nat_tests)

-- the column of a pixel in a row of a glyph, and the row of a pixel in a glyph
abbrev pub third : ℕ → ℕ → ℕ
third start x = (x - start) / 3

regroup : (g a e f : Bool) → (e ≡ true → f ≡ true) → (g && (a && e)) ≡ (e && (g && (a && f)))
regroup true true true f is = sym (is refl)
regroup true true false f is = refl
regroup true false true f is = refl
regroup true false false f is = refl
regroup false a true f is = refl
regroup false a false f is = refl

pub no_regroup : (g a e f : Bool) → (e ≡ true → f ≡ false) → (e && (g && (a && f))) ≡ false
no_regroup true true true f is = is refl
no_regroup true true false f is = refl
no_regroup true false true f is = refl
no_regroup true false false f is = refl
no_regroup false a true f is = refl
no_regroup false a false f is = refl

-- a black bit is its part of the row
pub black_bit : (row top at hidden n r c : ℕ) → row_bit row n ≡ true
    → bit_figure top (at + 3 * n) hidden r c ≡ part (λ r c. third at (c + hidden)) (row_figure row top at hidden) n r c
black_bit row top at hidden n r c black =
    ap (λ b. (nat_le top r && nat_lt r (top + 3)) && b) (in_three at (c + hidden) n)
    ∙ regroup (nat_le top r && nat_lt r (top + 3)) (nat_le at (c + hidden)) (third at (c + hidden) == n) (row_bit row (third at (c + hidden)))
    (λ is. ap (row_bit row) (eqb-true (third at (c + hidden)) n is) ∙ black)

-- and a white bit has none
pub white_bit : (row top at hidden n r c : ℕ) → row_bit row n ≡ false
    → part (λ r c. third at (c + hidden)) (row_figure row top at hidden) n r c ≡ false
white_bit row top at hidden n r c white =
    no_regroup (nat_le top r && nat_lt r (top + 3)) (nat_le at (c + hidden)) (third at (c + hidden) == n) (row_bit row (third at (c + hidden)))
    (λ is. ap (row_bit row) (eqb-true (third at (c + hidden)) n is) ∙ white)

bit_columns : (at hidden width from to c : ℕ) → from ≡ min (at - hidden) width → to ≡ min (at + 3 - hidden) width → c < width
    → (nat_le from c && nat_lt c (from + (to - from))) ≡ (nat_le at (c + hidden) && nat_lt (c + hidden) (at + 3))
bit_columns at hidden width from to c first last across = grind (arith, nat_tests)

-- a bit, as far as it lies on the page
pub bit_blackened : (p : Image) (top at hidden from to : ℕ) → from ≡ min (at - hidden) p.width → to ≡ min (at + 3 - hidden) p.width
    → inked p (covers_pixel (record { left = from; top = top; width = to - from; height = 3 } ∷ [])) ≡ inked p (bit_figure top at hidden)
bit_blackened p top at hidden from to first last =
    inked-alike p (covers_pixel (record { left = from; top = top; width = to - from; height = 3 } ∷ [])) (bit_figure top at hidden)
    (λ r c down across.
    and_or (nat_le top r) (nat_lt r (top + 3)) (nat_le from c) (nat_lt c (from + (to - from)))
    ∙ ap (λ b. (nat_le top r && nat_lt r (top + 3)) && b) (bit_columns at hidden p.width from to c first last across))

bit_within : (row k : ℕ) → row_bit row k ≡ true → k < 5
bit_within row k is = ltb-true k 5 ((and_parts (nat_lt k 5) (bit row (5 - 1 - k)) is).0)

-- a black pixel of a row belongs to one of its five bits
pub row_within : (row top at hidden r c : ℕ) → row_figure row top at hidden r c ≡ true → third at (c + hidden) < 5
row_within row top at hidden r c is =
    let columns = (and_parts (nat_le top r && nat_lt r (top + 3)) (nat_le at (c + hidden) && row_bit row (third at (c + hidden))) is).1 in
    bit_within row (third at (c + hidden)) (and_parts (nat_le at (c + hidden)) (row_bit row (third at (c + hidden))) columns).1

-- a row is its part of the glyph
pub row_part_of : (rows : List ℕ) (top at hidden n r c : ℕ)
    → row_figure (slice_index_or rows n 0) (top + 3 * n) at hidden r c ≡ part (λ r c. third top r) (glyph_figure rows top at hidden) n r c
row_part_of rows top at hidden n r c =
    ap (λ b. b && (nat_le at (c + hidden) && row_bit (slice_index_or rows n 0) (third at (c + hidden)))) (in_three top r n)
    ∙ rows_regroup (nat_le top r) (third top r == n) (nat_le at (c + hidden)) (row_bit (slice_index_or rows n 0) (third at (c + hidden))) (glyph_bit rows (third top r) (third at (c + hidden)))
    (λ is. ap (λ g. glyph_bit rows g (third at (c + hidden))) (sym (eqb-true (third top r) n is)))
  where
    rows_regroup : (g e a f h : Bool) → (e ≡ true → f ≡ h) → ((g && e) && (a && f)) ≡ (e && (g && (a && h)))
    rows_regroup true true true f h is = is refl
    rows_regroup true true false f h is = refl
    rows_regroup true false a f h is = refl
    rows_regroup false true a f h is = refl
    rows_regroup false false a f h is = refl

pub past_rows : (rows : List ℕ) (g k : ℕ) → length rows ≤ g → glyph_bit rows g k ≡ false
past_rows rows g k past =
    ap (λ row. row_bit row k) (get_or_past rows g 0 past) ∙ ap (λ b. nat_lt k 5 && b) (ap (λ n. n == 1) (bit_at-zero (5 - 1 - k))) ∙ none (nat_lt k 5)
  where
    none : (b : Bool) → (b && false) ≡ false
    none true = refl
    none false = refl

-- a black pixel of a glyph belongs to one of its rows
pub glyph_within : (rows : List ℕ) (top at hidden r c : ℕ) → glyph_figure rows top at hidden r c ≡ true → third top r < length rows
glyph_within rows top at hidden r c is =
    elim (cases_lt (third top r) (length rows)) [
      | inl within ↦ within
      | inr past ↦
          let columns = (and_parts (nat_le top r) (nat_le at (c + hidden) && glyph_bit rows (third top r) (third at (c + hidden))) is).1 in
          let black = (and_parts (nat_le at (c + hidden)) (glyph_bit rows (third top r) (third at (c + hidden))) columns).1 in
          let white = past_rows rows (third top r) (third at (c + hidden)) past in
          cc
    ]
