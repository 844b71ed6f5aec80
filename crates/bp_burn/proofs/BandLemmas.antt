-- The band drawn below a page of the final size, against the definition over the page as it was.
use Rattle.std.proofs.Common.{ℕ, ◌≡◌, ◌+◌, ◌-◌, ◌*◌, ◌<◌, ◌≤◌, ◌&&◌, ◌||◌, Bool, true, false, nat_le, nat_lt, List, [], length, get_or, replicate, append-nil, zero-add, refl, if◌then◌else◌, sym, ap, ◌∙◌, arith, inl, inr}
use Rattle.std.specs.Prelude.{IsTrue}
use Rattle.std.proofs.lemmas.Bool.{and_from, and_parts, cases_lt, leb-true, le-leb, lt-ltb, le-ltb}
use Rattle.std.proofs.lemmas.List.{get_or_append_left, get_or-append_right, get_or-replicate, get_or_past}
use Rattle.std.proofs.Math.Nat.{add-zero, mul-add}
use Rattle.bp_core.specs.declared.rectangle.Rect.{Rect}
use Rattle.bp_rows.proofs.GridLemmas.{cell-grid_of, grid_by_cells, grid_of_is_grid}
use Rattle.bp_rows.specs.Burned.{burned, covers_pixel}
use Rattle.bp_rows.specs.Image.{Image, IsGrid, IsPage, grid_of, pixel}
use Rattle.bp_rows.specs.Limits.{sides_are_allowed, sides_are_imported}
use Rattle.bp_burn.specs.Band.{band_texts, banded, produced_of}
use Rattle.bp_burn.specs.Drawn.{columns_of, is_drawn}
use Rattle.bp_burn.specs.Covered.{covered_pixel, covered_rows}
use Rattle.bp_burn.specs.Ink.{above, page_changed, inked, with_white_rows}
use Rattle.bp_core.specs.declared.stamps.Ink.{Ink}
use Rattle.bp_core.specs.declared.stamps.Stamp.{Stamp}
use Rattle.bp_burn.proofs.CopyLemmas.{grid_with_rows}
use Rattle.bp_burn.proofs.ChangeLemmas.{Agree, Change, changed_is_grid, pixel-changed}
use Rattle.bp_burn.proofs.InkLemmas.{Figure, inked-alike, inked-inked}

swapped : (a b : Bool) → (a || b) ≡ (b || a)
swapped true true = refl
swapped true false = refl
swapped false true = refl
swapped false false = refl

-- the designation, and then the label
pub band_drawn : (p : Image) (height width hidden : ℕ) (label designation label_bytes designation_bytes : List ℕ)
    → label_bytes ≡ label → designation_bytes ≡ designation → width ≡ p.width → hidden ≡ 16 + (18 * length label_bytes - 3)
    → inked (inked p (is_drawn designation_bytes (height + 5) 16 0)) (is_drawn label_bytes (height + 5) width hidden)
    ≡ inked p (band_texts p.width height label designation)
band_drawn p height width hidden label designation label_bytes designation_bytes own own' wide far =
    let left : hidden ≡ 16 + columns_of label = far ∙ ap (λ bytes. 16 + columns_of bytes) own in
    ap (λ bytes. inked (inked p (is_drawn bytes (height + 5) 16 0)) (is_drawn label_bytes (height + 5) width hidden)) own'
    ∙ ap (λ bytes. inked (inked p (is_drawn designation (height + 5) 16 0)) (is_drawn bytes (height + 5) width hidden)) own
    ∙ ap (λ w. inked (inked p (is_drawn designation (height + 5) 16 0)) (is_drawn label (height + 5) w hidden)) wide
    ∙ ap (λ h. inked (inked p (is_drawn designation (height + 5) 16 0)) (is_drawn label (height + 5) p.width h)) left
    ∙ inked-inked p (is_drawn designation (height + 5) 16 0) (is_drawn label (height + 5) p.width (16 + columns_of label)) (band_texts p.width height label designation)
    (λ r c down across. swapped (is_drawn label (height + 5) p.width (16 + columns_of label) r c) (is_drawn designation (height + 5) 16 0 r c))

-- grids of functions with the same values
pub same_grid : (w h : ℕ) (f g : Figure) → ((r c : ℕ) → r < h → c < w → f r c ≡ g r c) → grid_of w h f ≡ grid_of w h g
same_grid w h f g same =
    grid_by_cells w h (grid_of w h f) g (grid_of_is_grid w h f) (λ r c down across. cell-grid_of w h f r c down across ∙ same r c down across)

-- what lies below a page is white
below_white : (p : Image) (r c : ℕ) → IsGrid p.width p.height p.rows → p.height ≤ r → pixel p r c ≡ false
below_white p r c grid past =
    ap (λ row. get_or row c false) (get_or_past p.rows r [] (omega (arith, grid.down)))

-- the pixel of the page with white rows more
pixel_with_rows : (p : Image) (more r c : ℕ) → IsGrid p.width p.height p.rows → r < p.height + more → c < p.width → pixel (with_white_rows p more) r c ≡ pixel p r c
pixel_with_rows p more r c grid down across =
    let white = replicate more (replicate p.width false) in
    elim (cases_lt r p.height) [
      | inl old ↦ ap (λ row. get_or row c false) (get_or_append_left p.rows white [] r (omega (arith, grid.down)))
      | inr new ↦
          ap (λ row. get_or row c false) (get_or-append_right p.rows white p.height r [] grid.down new ∙ get_or-replicate more (r - p.height) (replicate p.width false) [] (omega arith))
          ∙ get_or-replicate p.width c false false across
          ∙ sym (below_white p r c grid new)
    ]

-- a change of the higher page that agrees with one of the page, and leaves what lies below
higher_pixel : (p : Image) (more : ℕ) (f g : Change) (r c : ℕ) → IsGrid p.width p.height p.rows
    → Agree p g f → ((r c : ℕ) (was : Bool) → p.height ≤ r → c < p.width → g r c was ≡ was)
    → r < p.height + more → c < p.width
    → pixel (page_changed (with_white_rows p more) g) r c ≡ pixel (page_changed p f) r c
higher_pixel p more f g r c grid inside outside down across =
    pixel-changed (with_white_rows p more) g r c down across ∙ ap (g r c) (pixel_with_rows p more r c grid down across)
    ∙ elim (cases_lt r p.height) [
      | inl old ↦ inside r c (pixel p r c) old across ∙ sym (pixel-changed p f r c old across)
      | inr new ↦
          outside r c (pixel p r c) new across ∙ below_white p r c grid new
          ∙ sym (below_white (page_changed p f) r c (changed_is_grid p f) new)
    ]

-- the band on the higher page is the band of the page
pub changed_banded : (p : Image) (f g : Change) (label designation : List ℕ) → IsGrid p.width p.height p.rows
    → Agree p g f → ((r c : ℕ) (was : Bool) → p.height ≤ r → c < p.width → g r c was ≡ was)
    → inked (page_changed (with_white_rows p 32) g) (band_texts p.width p.height label designation) ≡ banded (page_changed p f) label designation
changed_banded p f g label designation grid inside outside =
    let texts = band_texts p.width p.height label designation in
    ap (λ rows. record (with_white_rows p 32) { rows = rows })
    (same_grid p.width (p.height + 32) (λ r c. texts r c || pixel (page_changed (with_white_rows p 32) g) r c) (λ r c. texts r c || pixel (page_changed p f) r c)
    (λ r c down across. ap (λ b. texts r c || b) (higher_pixel p 32 f g r c grid inside outside down across)))

-- the same of figures that are inked
pub higher_banded : (p : Image) (f g : Figure) (label designation : List ℕ) → IsGrid p.width p.height p.rows
    → ((r c : ℕ) → r < p.height → c < p.width → g r c ≡ f r c) → ((r c : ℕ) → p.height ≤ r → c < p.width → g r c ≡ false)
    → inked (inked (with_white_rows p 32) g) (band_texts p.width p.height label designation) ≡ banded (inked p f) label designation
higher_banded p f g label designation grid inside outside =
    changed_banded p (λ r c was. f r c || was) (λ r c was. g r c || was) label designation grid
    (λ r c was down across. ap (λ b. b || was) (inside r c down across))
    (λ r c was past across. ap (λ b. b || was) (outside r c past across))

above_inside : (rows : ℕ) (boxes : List Rect) (r c : ℕ) → r < rows → above rows boxes r c ≡ covers_pixel boxes r c
above_inside rows boxes r c down = ap (λ b. b && covers_pixel boxes r c) (lt-ltb r rows down)

-- covered on the higher page, with the band
pub produced_made : (ink : Ink) (p : Image) (stamps : List Stamp) (label designation : List ℕ) → IsGrid p.width p.height p.rows
    → inked (page_changed (with_white_rows p 32) (covered_rows p.height 0 ink stamps)) (band_texts p.width p.height label designation) ≡ produced_of ink p stamps label designation
produced_made ink p stamps label designation grid =
    changed_banded p (covered_pixel ink stamps) (covered_rows p.height 0 ink stamps) label designation grid
    (λ r c was down across.
    ap (λ b. if b then covered_pixel ink stamps (0 + r) c was else was) (lt-ltb r p.height down)
    ∙ ap (λ n. covered_pixel ink stamps n c was) (zero-add r))
    (λ r c was past across. ap (λ b. if b then covered_pixel ink stamps (0 + r) c was else was) (le-ltb r p.height past))

pub five : (a b c d e : Bool) → (a && b && c && d && e) ≡ true → (a ≡ true) × (b ≡ true) × (c ≡ true) × (d ≡ true) × (e ≡ true)
five a b c d e all =
    let four = and_parts (a && b && c && d) e all in
    let three = and_parts (a && b && c) d four.0 in
    let two = and_parts (a && b) c three.0 in
    let one = and_parts a b two.0 in
    (one.0, one.1, two.1, three.1, four.1)

-- a page that comes in may have a band
pub band_fits : (w h : ℕ) → IsTrue (sides_are_imported w h) → IsTrue (sides_are_allowed w (h + 32))
band_fits w h imported =
    let parts = five (nat_lt 0 w) (nat_le w 20000) (nat_lt 0 h) (nat_le h 20000) (nat_le (w * h) 200000000) imported in
    let wide = leb-true w 20000 parts.1 in
    let high = leb-true h 20000 parts.3 in
    let many = leb-true (w * h) 200000000 parts.4 in
    let all : w * (h + 32) ≡ w * h + w * 32 = mul-add w h 32 in
    and_from (nat_lt 0 w && nat_le w 20000 && nat_lt 0 (h + 32) && nat_le (h + 32) 20032) (nat_le (w * (h + 32)) 200640000)
    (and_from (nat_lt 0 w && nat_le w 20000 && nat_lt 0 (h + 32)) (nat_le (h + 32) 20032)
    (and_from (nat_lt 0 w && nat_le w 20000) (nat_lt 0 (h + 32)) (and_from (nat_lt 0 w) (nat_le w 20000) parts.0 parts.1) (lt-ltb 0 (h + 32) (omega arith)))
    (le-leb (h + 32) 20032 (omega arith)))
    (le-leb (w * (h + 32)) 200640000 (omega (arith, all)))

-- the higher page is a page
pub page_with_rows : (p : Image) (more : ℕ) → IsPage p → IsTrue (sides_are_allowed p.width (p.height + more)) → IsPage (with_white_rows p more)
page_with_rows p more page sides = record { sides = sides; xres = page.xres; yres = page.yres; grid = grid_with_rows p more page.grid }

no_more_rows : (p : Image) → with_white_rows p 0 ≡ p
no_more_rows p =
    ap (λ rows. record p { height = p.height + 0; rows = rows }) (append-nil p.rows)
    ∙ ap (λ h. record p { height = h }) (add-zero p.height)

-- what of the boxes lies in any row of the page is burned
pub boxes_inked : (p : Image) (boxes : List Rect) → inked p (above p.height boxes) ≡ burned p boxes
boxes_inked p boxes =
    inked-alike p (above p.height boxes) (covers_pixel boxes) (λ r c down across. above_inside p.height boxes r c down)

-- burned on a copy of the page
pub burned_made : (p : Image) (boxes : List Rect) → inked (with_white_rows p 0) (above p.height boxes) ≡ burned p boxes
burned_made p boxes = ap (λ page. inked page (above p.height boxes)) (no_more_rows p) ∙ boxes_inked p boxes
