-- Boxes cut to a row or to the rows of a page, against the boxes as they are.
use Rattle.std.proofs.Common.{ℕ, ◌≡◌, ◌+◌, ◌-◌, ◌<◌, ◌≤◌, ◌==◌, ◌&&◌, ◌||◌, Bool, true, false, nat_le, nat_lt, List, [], ◌∷◌, ◌++◌, length, take, get_or, refl, sym, ap, ◌∙◌, arith, inl, inr}
use Rattle.std.proofs.lemmas.Bool.{cases_Bool, eqb-true}
use Rattle.std.proofs.lemmas.Bool.Decides.{nat_tests}
use Rattle.std.proofs.lemmas.List.{take_more}
use Rattle.std.proofs.lemmas.List.Folds.{list_any-append}
use Rattle.bp_core.specs.Rectangle.{has_pixel}
use Rattle.bp_core.specs.declared.rectangle.Rect.{Rect}
use Rattle.bp_rows.specs.Burned.{covers_pixel, row_part}
use Rattle.bp_rows.specs.Image.{Image, IsGrid}
use Rattle.bp_burn.specs.Ink.{above, in_row, inked}
use Rattle.bp_burn.proofs.InkLemmas.{inked-inked, inked-nothing}

pub and_or : (a b c d : Bool) → ((((a && b) && c) && d) || false) ≡ ((a && b) && (c && d))
and_or true true true true = refl
and_or true true true false = refl
and_or true true false d = refl
and_or true false c d = refl
and_or false b c d = refl

one_row : (row r : ℕ) → (nat_le row r && nat_lt r (row + 1)) ≡ (r == row)
one_row row r = grind (arith, nat_tests)

same_row : (row r : ℕ) (p q : ℕ → Bool) → p row ≡ q row → ((r == row) && p r) ≡ ((r == row) && q r)
same_row row r p q same =
    elim (cases_Bool (r == row)) [
      | inl is ↦ let e = eqb-true r row is in ap (λ b. (r == row) && b) (ap p e ∙ same ∙ ap q (sym e))
      | inr other ↦ ap (λ b. b && p r) other ∙ sym (ap (λ b. b && q r) other)
    ]

-- the boxes so far, and one more
pub one_more_box : (boxes : List Rect) (i : ℕ) (box d : Rect) (r c : ℕ) → i < length boxes → box ≡ get_or boxes i d
    → covers_pixel (take (i + 1) boxes) r c ≡ (covers_pixel (take i boxes) r c || (has_pixel box r c || false))
one_more_box boxes i box d r c within is =
    ap (λ some. covers_pixel some r c) (take_more boxes i d within ∙ ap (λ b. take i boxes ++ b ∷ []) (sym is))
    ∙ list_any-append (λ b. has_pixel b r c) (take i boxes) (box ∷ [])

spread : (e a b : Bool) → ((e && a) || (e && b)) ≡ (e && (b || (a || false)))
spread true true true = refl
spread true true false = refl
spread true false true = refl
spread true false false = refl
spread false a b = refl

-- a box more in the row
pub row_part_inked : (p : Image) (row from to : ℕ) (boxes : List Rect) (i : ℕ) (box d : Rect) → i < length boxes → box ≡ get_or boxes i d
    → from ≤ to
    → ((c : ℕ) → c < p.width → (nat_le from c && nat_lt c to) ≡ has_pixel box row c)
    → inked (inked p (in_row row (take i boxes))) (covers_pixel (row_part row from to ∷ [])) ≡ inked p (in_row row (take (i + 1) boxes))
row_part_inked p row from to boxes i box d within is order columns =
    let last : from + (to - from) ≡ to = omega arith in
    inked-inked p (in_row row (take i boxes)) (covers_pixel (row_part row from to ∷ [])) (in_row row (take (i + 1) boxes))
    (λ r c down across.
    ap (λ b. b || in_row row (take i boxes) r c)
    (and_or (nat_le row r) (nat_lt r (row + 1)) (nat_le from c) (nat_lt c (from + (to - from)))
    ∙ ap (λ n. (nat_le row r && nat_lt r (row + 1)) && (nat_le from c && nat_lt c n)) last
    ∙ ap (λ b. b && (nat_le from c && nat_lt c to)) (one_row row r)
    ∙ ap (λ b. (r == row) && b) (columns c across)
    ∙ sym (same_row row r (λ k. has_pixel box k c) (λ k. has_pixel box row c) refl))
    ∙ spread (r == row) (has_pixel box r c) (covers_pixel (take i boxes) r c)
    ∙ ap (λ b. (r == row) && b) (sym (one_more_box boxes i box d r c within is)))

-- no box in the row
pub no_box_in_row : (p : Image) (row : ℕ) → IsGrid p.width p.height p.rows → p ≡ inked p (in_row row [])
no_box_in_row p row grid = inked-nothing p (in_row row []) grid (λ r c down across. none (r == row))
  where
    none : (b : Bool) → (b && false) ≡ false
    none true = refl
    none false = refl

-- what of a box more lies in the first rows
pub clipped_inked : (p : Image) (rows : ℕ) (boxes : List Rect) (i : ℕ) (box d cut : Rect) → i < length boxes → box ≡ get_or boxes i d
    → ((r c : ℕ) → c < p.width → has_pixel cut r c ≡ (nat_lt r rows && has_pixel box r c))
    → inked (inked p (above rows (take i boxes))) (covers_pixel (cut ∷ [])) ≡ inked p (above rows (take (i + 1) boxes))
clipped_inked p rows boxes i box d cut within is pixels =
    inked-inked p (above rows (take i boxes)) (covers_pixel (cut ∷ [])) (above rows (take (i + 1) boxes))
    (λ r c down across.
    ap (λ b. (b || false) || above rows (take i boxes) r c) (pixels r c across)
    ∙ spread' (nat_lt r rows) (has_pixel box r c) (covers_pixel (take i boxes) r c)
    ∙ ap (λ b. nat_lt r rows && b) (sym (one_more_box boxes i box d r c within is)))
  where
    spread' : (e a b : Bool) → (((e && a) || false) || (e && b)) ≡ (e && (b || (a || false)))
    spread' true true true = refl
    spread' true true false = refl
    spread' true false true = refl
    spread' true false false = refl
    spread' false a b = refl

-- no box above
pub no_box_above : (p : Image) (rows : ℕ) → IsGrid p.width p.height p.rows → p ≡ inked p (above rows [])
no_box_above p rows grid = inked-nothing p (above rows []) grid (λ r c down across. none (nat_lt r rows))
  where
    none : (b : Bool) → (b && false) ≡ false
    none true = refl
    none false = refl
