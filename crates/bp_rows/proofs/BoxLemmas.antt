-- A box burned row by row: carries the rows burned so far to one row more.
use Rattle.std.proofs.Common.{ℕ, ◌≡◌, ◌+◌, ◌-◌, Bool, true, false, ◌&&◌, ◌||◌, nat_le, nat_lt, [], ◌∷◌, refl, sym, ap, ◌∙◌, arith}
use Rattle.std.proofs.lemmas.Bool.Decides.{nat_tests}
use Rattle.bp_core.specs.declared.rectangle.Rect.{Rect}
use Rattle.bp_rows.specs.Image.{Image, IsPage}
use Rattle.bp_rows.specs.Burned.{burned, covers_pixel, row_part}
use Rattle.bp_rows.proofs.BurnedLemmas.{burned-nil, burned-burned, burned-covers}

-- the first rows of a box
abbrev pub first_rows : Rect → ℕ → Rect
first_rows box n = record box { height = n }

rows_join : (t i r : ℕ) → ((nat_le (t + i) r && nat_lt r (t + i + 1)) || (nat_le t r && nat_lt r (t + i))) ≡ (nat_le t r && nat_lt r (t + (i + 1)))
rows_join t i r = grind (arith, nat_tests)

spread : (x y a b : Bool) → ((((x && a) && b) || false) || (((y && a) && b) || false)) ≡ ((((x || y) && a) && b) || false)
spread true true true true = refl
spread true true true false = refl
spread true true false true = refl
spread true true false false = refl
spread true false true true = refl
spread true false true false = refl
spread true false false true = refl
spread true false false false = refl
spread false true true true = refl
spread false true true false = refl
spread false true false true = refl
spread false true false false = refl
spread false false true true = refl
spread false false true false = refl
spread false false false true = refl
spread false false false false = refl

-- one more row
covers_more : (box : Rect) (i r c : ℕ) → (covers_pixel (row_part (box.top + i) box.left (box.left + box.width) ∷ []) r c || covers_pixel (first_rows box i ∷ []) r c) ≡ covers_pixel (first_rows box (i + 1) ∷ []) r c
covers_more box i r c =
    let wide : box.left + (box.left + box.width - box.left) ≡ box.left + box.width = omega arith in
    ap (λ e. ((((nat_le (box.top + i) r && nat_lt r (box.top + i + 1)) && nat_le box.left c) && nat_lt c e) || false) || covers_pixel (first_rows box i ∷ []) r c) wide
    ∙ spread (nat_le (box.top + i) r && nat_lt r (box.top + i + 1)) (nat_le box.top r && nat_lt r (box.top + i)) (nat_le box.left c) (nat_lt c (box.left + box.width))
    ∙ ap (λ x. ((x && nat_le box.left c) && nat_lt c (box.left + box.width)) || false) (rows_join box.top i r)

pub one_more_row : (p : Image) (box : Rect) (i : ℕ) → burned (burned p (first_rows box i ∷ [])) (row_part (box.top + i) box.left (box.left + box.width) ∷ []) ≡ burned p (first_rows box (i + 1) ∷ [])
one_more_row p box i =
    burned-burned p (first_rows box i ∷ []) (row_part (box.top + i) box.left (box.left + box.width) ∷ []) (first_rows box (i + 1) ∷ [])
    (λ r c down across. covers_more box i r c)

no_row : (t r : ℕ) → (nat_le t r && nat_lt r (t + 0)) ≡ false
no_row t r = grind (arith, nat_tests)

none_covered : (box : Rect) (r c : ℕ) → covers_pixel (first_rows box 0 ∷ []) r c ≡ false
none_covered box r c = ap (λ x. ((x && nat_le box.left c) && nat_lt c (box.left + box.width)) || false) (no_row box.top r)

pub no_rows : (p : Image) (box : Rect) → IsPage p → p ≡ burned p (first_rows box 0 ∷ [])
no_rows p box page =
    sym (burned-nil p page.grid)
    ∙ burned-covers p [] (first_rows box 0 ∷ []) (λ r c down across. sym (none_covered box r c))
