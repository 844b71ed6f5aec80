-- The rows and pixels of a stamp's letters as parts of them.
use Rattle.std.proofs.Common.{ℕ, ◌≡◌, ◌≢◌, ◌+◌, ◌-◌, ◌*◌, ◌<◌, ◌≤◌, ◌==◌, ◌&&◌, Bool, true, false, nat_le, nat_lt, min, List, length, refl, sym, ap, ◌∙◌, arith, inl, inr, add-zero}
use Rattle.std.proofs.lemmas.Bool.{and_from, and_parts, cases_lt, eqb-true, leb-true, le-leb, lt-ltb}
use Rattle.std.proofs.lemmas.Bool.Decides.{nat_tests}
use Rattle.bp_core.specs.Rectangle.{has_pixel}
use Rattle.bp_core.specs.Review.{basis_code}
use Rattle.bp_core.specs.declared.review.Basis.{Basis}
use Rattle.bp_core.specs.declared.review.Basis.TheVariants.{Ac, Wp, Pi, Ts}
use Rattle.bp_core.specs.declared.stamps.Stamp.{Stamp}
use Rattle.bp_burn.specs.Covered.{has_letter, is_lettered, letters_in}
use Rattle.bp_burn.specs.Drawn.{text_pixel}
use Rattle.bp_burn.specs.Figures.{text_row}
use Rattle.bp_burn.proofs.FigureLemmas.{no_regroup}
use Rattle.bp_burn.proofs.InkLemmas.{part}
use Rattle.bp_burn.proofs.TextLemmas.{drawn_above, pixel_within}

-- ---- the pixels of a row

-- the column of a pixel in a drawing
abbrev pub from_left : ℕ → ℕ → ℕ
from_left left c = c - left

column_is : (left c u : ℕ) → (c == left + u) ≡ ((c - left == u) && nat_le left c)
column_is left c u = grind (arith, nat_tests)

regroup : (g e l f : Bool) → (e ≡ true → f ≡ true) → (g && (e && l)) ≡ (e && (g && (l && f)))
regroup true true true f is = sym (is refl)
regroup true true false f is = refl
regroup true false l f is = refl
regroup false true l f is = refl
regroup false false l f is = refl

-- a black pixel is its part of the row
pub black_pixel : (text : List ℕ) (v row left u r c : ℕ) → text_pixel text v u ≡ true
    → ((r == row) && (c == left + u)) ≡ part (λ r c. from_left left c) (text_row text v row left) u r c
black_pixel text v row left u r c black =
    ap (λ b. (r == row) && b) (column_is left c u)
    ∙ regroup (r == row) (c - left == u) (nat_le left c) (text_pixel text v (c - left))
    (λ is. ap (text_pixel text v) (eqb-true (c - left) u is) ∙ black)

-- and a white pixel has none
pub white_pixel : (text : List ℕ) (v row left u r c : ℕ) → text_pixel text v u ≡ false
    → part (λ r c. from_left left c) (text_row text v row left) u r c ≡ false
white_pixel text v row left u r c white =
    no_regroup (r == row) (nat_le left c) (c - left == u) (text_pixel text v (c - left))
    (λ is. ap (text_pixel text v) (eqb-true (c - left) u is) ∙ white)

-- a black pixel of the row lies in the columns that are gone over
pub row_within : (text : List ℕ) (v row left width columns r c : ℕ) → columns ≡ min (width - left) (18 * length text) → c < width
    → text_row text v row left r c ≡ true → from_left left c < columns
row_within text v row left width columns r c many across is =
    let rest = (and_parts (r == row) (nat_le left c && text_pixel text v (c - left)) is).1 in
    let both = and_parts (nat_le left c) (text_pixel text v (c - left)) rest in
    let right = leb-true left c both.0 in
    let inside = pixel_within text v (c - left) both.1 in
    omega (arith, right, inside, many)

-- ---- the rows

-- the row of a pixel in a drawing, of a page whose row 0 is that row of the drawing's page
abbrev pub from_top : ℕ → ℕ → ℕ → ℕ
from_top first top r = first + r - top

row_is : (first rows top v row r : ℕ) → first + row ≡ top + v → row < rows
    → (r == row) ≡ ((first + r - top == v) && (nat_lt r rows && nat_le top (first + r)))
row_is first rows top v row r there within = grind (arith, nat_tests)

rows_regroup : (e n t f h : Bool) → (e ≡ true → f ≡ h) → ((e && (n && t)) && h) ≡ (e && (n && (t && f)))
rows_regroup true true true f h is = sym (is refl)
rows_regroup true true false f h is = refl
rows_regroup true false t f h is = refl
rows_regroup false n t f h is = refl

-- a row is its part of the letters
pub letter_row : (s : Stamp) (text : List ℕ) (rows first top left v row r c : ℕ) → text ≡ basis_code s.basis
    → top ≡ s.rect.top + 3 → left ≡ s.rect.left + 3 → first + row ≡ top + v → row < rows
    → text_row text v row left r c ≡ part (λ r c. from_top first top r) (letters_in rows first s) v r c
letter_row s text rows first top left v row r c code down right there within =
    let t : ℕ = s.rect.top + 3 in
    let l : ℕ = s.rect.left + 3 in
    let cols : ℕ → ℕ → Bool = λ (k j : ℕ). nat_le l j && text_pixel (basis_code s.basis) k (j - l) in
    ap (λ bytes. (r == row) && (nat_le left c && text_pixel bytes v (c - left))) code
    ∙ ap (λ n. (r == row) && (nat_le n c && text_pixel (basis_code s.basis) v (c - n))) right
    ∙ ap (λ b. b && cols v c) (row_is first rows top v row r there within)
    ∙ ap (λ n. ((first + r - top == v) && (nat_lt r rows && nat_le n (first + r))) && cols v c) down
    ∙ ap (λ k. ((first + r - top == v) && (nat_lt r rows && nat_le t (first + r))) && cols v k) (sym (add-zero c))
    ∙ rows_regroup (first + r - top == v) (nat_lt r rows) (nat_le t (first + r)) (cols (first + r - t) (c + 0)) (cols v (c + 0))
    (λ is. ap (λ k. cols k (c + 0)) (ap (λ n. first + r - n) (sym down) ∙ eqb-true (first + r - top) v is))

other_row : (first rows top v r : ℕ) → (r < rows → first + r ≢ top + v) → ((first + r - top == v) && (nat_lt r rows && nat_le top (first + r))) ≡ false
other_row first rows top v r none =
    elim (cases_lt r rows) [
      | inl within ↦ let apart = none within in grind (arith, nat_tests)
      | inr past ↦ grind (arith, nat_tests)
    ]

none_regroup : (e n t f : Bool) → (e && (n && t)) ≡ false → (e && (n && (t && f))) ≡ false
none_regroup true true true f none = cc
none_regroup true true false f none = refl
none_regroup true false t f none = refl
none_regroup false n t f none = refl

-- a row that isn't there has none
pub no_letter_row : (s : Stamp) (rows first top v r c : ℕ) → top ≡ s.rect.top + 3
    → (r < rows → first + r ≢ top + v)
    → part (λ r c. from_top first top r) (letters_in rows first s) v r c ≡ false
no_letter_row s rows first top v r c down none =
    let t : ℕ = s.rect.top + 3 in
    let l : ℕ = s.rect.left + 3 in
    none_regroup (first + r - top == v) (nat_lt r rows) (nat_le t (first + r)) (nat_le l (c + 0) && text_pixel (basis_code s.basis) (first + r - t) (c + 0 - l))
    (ap (λ n. (first + r - top == v) && (nat_lt r rows && nat_le n (first + r))) (sym down) ∙ other_row first rows top v r none)

-- the letters have 21 rows
pub letters_within : (s : Stamp) (rows first top r c : ℕ) → top ≡ s.rect.top + 3
    → letters_in rows first s r c ≡ true → from_top first top r < 21
letters_within s rows first top r c down is =
    elim (cases_lt (from_top first top r) 21) [
      | inl within ↦ within
      | inr past ↦
          let black = (and_parts (nat_lt r rows) (has_letter s (first + r) c) is).1 in
          let low : s.rect.top + 3 + 21 ≤ first + r = omega (arith, past, down) in
          let white = drawn_above (basis_code s.basis) (s.rect.top + 3) (s.rect.left + 3) 0 (first + r) c low in
          let both : true ≡ false = sym black ∙ white in cc
    ]

-- ---- the letters lie in the box

two_letters : (b : Basis) → length (basis_code b) ≡ 2
two_letters Ac = refl
two_letters Wp = refl
two_letters Pi = refl
two_letters Ts = refl

four : (a b c d : Bool) → a ≡ true → b ≡ true → c ≡ true → d ≡ true → (a && b && c && d) ≡ true
four a b c d p q r s = and_from (a && b && c) d (and_from (a && b) c (and_from a b p q) r) s

pub letters_inside : (s : Stamp) (r c : ℕ) → is_lettered s ≡ true → has_letter s r c ≡ true → has_pixel s.rect r c ≡ true
letters_inside s r c room is =
    let sides = and_parts (nat_le 39 s.rect.width) (nat_le 27 s.rect.height) room in
    let wide = leb-true 39 s.rect.width sides.0 in
    let high = leb-true 27 s.rect.height sides.1 in
    let t : ℕ = s.rect.top + 3 in
    let l : ℕ = s.rect.left + 3 in
    let rows = and_parts (nat_le t r) (nat_le l (c + 0) && text_pixel (basis_code s.basis) (r - t) (c + 0 - l)) is in
    let columns = and_parts (nat_le l (c + 0)) (text_pixel (basis_code s.basis) (r - t) (c + 0 - l)) rows.1 in
    let below = leb-true t r rows.0 in
    let right = leb-true l (c + 0) columns.0 in
    let inside = pixel_within (basis_code s.basis) (r - t) (c + 0 - l) columns.1 in
    let two = two_letters s.basis in
    let above : r < t + 21 =
    elim (cases_lt r (t + 21)) [
      | inl within ↦ within
      | inr past ↦ let both : true ≡ false = sym is ∙ drawn_above (basis_code s.basis) t l 0 r c past in cc
    ] in
    four (nat_le s.rect.top r) (nat_lt r (s.rect.top + s.rect.height)) (nat_le s.rect.left c) (nat_lt c (s.rect.left + s.rect.width))
    (le-leb s.rect.top r (omega (arith, below))) (lt-ltb r (s.rect.top + s.rect.height) (omega (arith, above, high)))
    (le-leb s.rect.left c (omega (arith, right))) (lt-ltb c (s.rect.left + s.rect.width) (omega (arith, inside, two, wide, right)))
