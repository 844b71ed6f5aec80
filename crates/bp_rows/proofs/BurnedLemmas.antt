-- Burning in steps.
use Rattle.std.proofs.Common.{ℕ, ◌≡◌, ◌<◌, Bool, true, false, List, [], ◌||◌, refl, sym, ap, ◌∙◌}
use Rattle.bp_core.specs.declared.rectangle.Rect.{Rect}
use Rattle.bp_rows.specs.Image.{Image, IsGrid, pixel, grid_of}
use Rattle.bp_rows.specs.declared.resolution.Res.{Res}
use Rattle.bp_rows.specs.declared.resolution.Unit.{Unit as LengthUnit}
use Rattle.bp_rows.specs.Burned.{AgreeOutside, burned, covers_pixel}
use Rattle.bp_rows.proofs.GridLemmas.{cell-grid_of, grid_of_is_grid, same_grids, grid_by_cells}

abbrev with_rows : Image → List (List Bool) → Image
with_rows p rows = record p { rows = rows }

-- the pixel of a burned page
pub pixel-burned : (p : Image) (boxes : List Rect) (r c : ℕ) → r < p.height → c < p.width → pixel (burned p boxes) r c ≡ (covers_pixel boxes r c || pixel p r c)
pixel-burned p boxes r c down across = cell-grid_of p.width p.height (λ i j. covers_pixel boxes i j || pixel p i j) r c down across

pub burned_is_grid : (p : Image) (boxes : List Rect) → IsGrid p.width p.height (burned p boxes).rows
burned_is_grid p boxes = grid_of_is_grid p.width p.height (λ r c. covers_pixel boxes r c || pixel p r c)

-- nothing burned
pub burned-nil : (p : Image) → IsGrid p.width p.height p.rows → burned p [] ≡ p
burned-nil p grid = ap (with_rows p) (sym (grid_by_cells p.width p.height p.rows (λ r c. pixel p r c) grid (λ r c down across. refl)))

joined : (a b c : Bool) → (a || (b || c)) ≡ ((a || b) || c)
joined true b c = refl
joined false b c = refl

-- burned twice, with boxes that cover together what one list covers
pub burned-burned : (p : Image) (first second both : List Rect) → ((r c : ℕ) → r < p.height → c < p.width → (covers_pixel second r c || covers_pixel first r c) ≡ covers_pixel both r c) → burned (burned p first) second ≡ burned p both
burned-burned p first second both together =
    ap (with_rows p)
    (same_grids p.width p.height (burned (burned p first) second).rows (burned p both).rows (burned_is_grid (burned p first) second) (burned_is_grid p both)
    (λ r c down across.
    pixel-burned (burned p first) second r c down across
    ∙ ap (λ b. covers_pixel second r c || b) (pixel-burned p first r c down across)
    ∙ joined (covers_pixel second r c) (covers_pixel first r c) (pixel p r c)
    ∙ ap (λ b. b || pixel p r c) (together r c down across)
    ∙ sym (pixel-burned p both r c down across)))

alike_pixel : (b x y : Bool) → (b ≡ false → x ≡ y) → (b || x) ≡ (b || y)
alike_pixel true x y same = refl
alike_pixel false x y same = same refl

abbrev image : ℕ → ℕ → Res → Res → LengthUnit → List (List Bool) → Image
image w h x y u rs = record { width = w; height = h; xres = x; yres = y; unit = u; rows = rs }

-- pages that agree outside the boxes are burned to one page
pub burned-AgreeOutside : (boxes : List Rect) (p q : Image) → AgreeOutside boxes p q → burned p boxes ≡ burned q boxes
burned-AgreeOutside boxes p q agree =
    let f : ℕ → ℕ → Bool = λ r c. covers_pixel boxes r c || pixel p r c in
    let g : ℕ → ℕ → Bool = λ r c. covers_pixel boxes r c || pixel q r c in
    let rows : grid_of p.width p.height f ≡ grid_of p.width p.height g =
    grid_by_cells p.width p.height (grid_of p.width p.height f) g (grid_of_is_grid p.width p.height f)
    (λ r c down across.
    cell-grid_of p.width p.height f r c down across
    ∙ alike_pixel (covers_pixel boxes r c) (pixel p r c) (pixel q r c) (agree.pixels r c down across)) in
    ap (image p.width p.height p.xres p.yres p.unit) rows
    ∙ ap (λ w. image w p.height p.xres p.yres p.unit (grid_of w p.height g)) agree.width
    ∙ ap (λ h. image q.width h p.xres p.yres p.unit (grid_of q.width h g)) agree.height
    ∙ ap (λ x. image q.width q.height x p.yres p.unit (grid_of q.width q.height g)) agree.xres
    ∙ ap (λ y. image q.width q.height q.xres y p.unit (grid_of q.width q.height g)) agree.yres
    ∙ ap (λ u. image q.width q.height q.xres q.yres u (grid_of q.width q.height g)) agree.unit

-- lists of boxes that cover the same pixels
pub burned-covers : (p : Image) (some others : List Rect) → ((r c : ℕ) → r < p.height → c < p.width → covers_pixel some r c ≡ covers_pixel others r c) → burned p some ≡ burned p others
burned-covers p some others same =
    ap (with_rows p)
    (same_grids p.width p.height (burned p some).rows (burned p others).rows (burned_is_grid p some) (burned_is_grid p others)
    (λ r c down across.
    pixel-burned p some r c down across ∙ ap (λ b. b || pixel p r c) (same r c down across) ∙ sym (pixel-burned p others r c down across)))
