-- Pages changed one step after another, against the change that the steps make together.
use Rattle.std.proofs.Common.{ℕ, ◌≡◌, ◌<◌, Bool, true, false, cond, List, ◌+◌, ◌==◌, ◌&&◌, ◌||◌, refl, sym, ap, ◌∙◌}
use Rattle.std.specs.Prelude.{not}
use Rattle.bp_rows.specs.Image.{Image, IsGrid, IsPage, pixel, with_pixel}
use Rattle.bp_rows.proofs.GridLemmas.{cell-grid_of, cell-with_cell, grid_of_is_grid, same_grids, grid_by_cells, with_cell, with_cell_is_grid}
use Rattle.bp_burn.specs.Ink.{page_changed, erased}
use Rattle.bp_burn.proofs.InkLemmas.{Alike, Figure, all_before, before, none_before, none_joins, part, part_joins}

abbrev pub Change : Type 0
Change = ℕ → ℕ → Bool → Bool

-- two changes make the same of the pixels of a page
abbrev pub Agree : Image → Change → Change → Type 0
Agree p one other = (r c : ℕ) (was : Bool) → r < p.height → c < p.width → one r c was ≡ other r c was

abbrev with_rows : Image → List (List Bool) → Image
with_rows p rows = record p { rows = rows }

pub pixel-changed : (p : Image) (f : Change) (r c : ℕ) → r < p.height → c < p.width → pixel (page_changed p f) r c ≡ f r c (pixel p r c)
pixel-changed p f r c down across = cell-grid_of p.width p.height (λ i j. f i j (pixel p i j)) r c down across

pub changed_is_grid : (p : Image) (f : Change) → IsGrid p.width p.height (page_changed p f).rows
changed_is_grid p f = grid_of_is_grid p.width p.height (λ r c. f r c (pixel p r c))

-- a changed page is a page
pub changed_page : (p : Image) (f : Change) → IsPage p → IsPage (page_changed p f)
changed_page p f page = record { sides = page.sides; xres = page.xres; yres = page.yres; grid = changed_is_grid p f }

-- nothing changed
pub changed-nothing : (p : Image) (f : Change) → IsGrid p.width p.height p.rows → Agree p f (λ r c was. was) → p ≡ page_changed p f
changed-nothing p f grid none =
    ap (with_rows p) (grid_by_cells p.width p.height p.rows (λ r c. f r c (pixel p r c)) grid
    (λ r c down across. sym (none r c (pixel p r c) down across)))

-- changes that agree
pub changed-alike : (p : Image) (f g : Change) → Agree p f g → page_changed p f ≡ page_changed p g
changed-alike p f g same =
    ap (with_rows p)
    (same_grids p.width p.height (page_changed p f).rows (page_changed p g).rows (changed_is_grid p f) (changed_is_grid p g)
    (λ r c down across.
    pixel-changed p f r c down across ∙ same r c (pixel p r c) down across ∙ sym (pixel-changed p g r c down across)))

-- one change after another
pub changed-changed : (p : Image) (first second both : Change) → Agree p (λ r c was. second r c (first r c was)) both
    → page_changed (page_changed p first) second ≡ page_changed p both
changed-changed p first second both together =
    ap (with_rows p)
    (same_grids p.width p.height (page_changed (page_changed p first) second).rows (page_changed p both).rows (changed_is_grid (page_changed p first) second) (changed_is_grid p both)
    (λ r c down across.
    pixel-changed (page_changed p first) second r c down across
    ∙ ap (second r c) (pixel-changed p first r c down across)
    ∙ together r c (pixel p r c) down across
    ∙ sym (pixel-changed p both r c down across)))

-- ---- figures erased

abbrev erasing : Figure → Change
erasing f r c was = not (f r c) && was

erased_both : (a b was : Bool) → (not a && (not b && was)) ≡ (not (a || b) && was)
erased_both true b was = refl
erased_both false b was = refl

pub erased_is_grid : (p : Image) (f : Figure) → IsGrid p.width p.height (erased p f).rows
erased_is_grid p f = changed_is_grid p (erasing f)

pub erased-alike : (p : Image) (f g : Figure) → Alike p f g → erased p f ≡ erased p g
erased-alike p f g same =
    changed-alike p (erasing f) (erasing g) (λ r c was down across. ap (λ b. not b && was) (same r c down across))

-- one figure after another
pub erased-erased : (p : Image) (first second both : Figure) → Alike p (λ r c. second r c || first r c) both
    → erased (erased p first) second ≡ erased p both
erased-erased p first second both together =
    changed-changed p (erasing first) (erasing second) (erasing both)
    (λ r c was down across.
    erased_both (second r c) (first r c) was ∙ ap (λ b. not b && was) (together r c down across))

-- one part more
pub part_erased : (p : Image) (index : ℕ → ℕ → ℕ) (whole figure : Figure) (n : ℕ) → Alike p figure (part index whole n)
    → erased (erased p (before index whole n)) figure ≡ erased p (before index whole (n + 1))
part_erased p index whole figure n is =
    erased-erased p (before index whole n) figure (before index whole (n + 1))
    (λ r c down across. ap (λ b. b || before index whole n r c) (is r c down across) ∙ part_joins (index r c) n (whole r c))

-- a part without a pixel
pub part_kept : (p : Image) (index : ℕ → ℕ → ℕ) (whole : Figure) (n : ℕ) → Alike p (part index whole n) (λ r c. false)
    → erased p (before index whole n) ≡ erased p (before index whole (n + 1))
part_kept p index whole n none =
    erased-alike p (before index whole n) (before index whole (n + 1))
    (λ r c down across. none_joins (part index whole n r c) (before index whole n r c) (before index whole (n + 1) r c) (none r c down across) (part_joins (index r c) n (whole r c)))

-- no part
pub no_part_erased : (p : Image) (index : ℕ → ℕ → ℕ) (whole : Figure) → IsGrid p.width p.height p.rows → p ≡ erased p (before index whole 0)
no_part_erased p index whole grid =
    changed-nothing p (erasing (before index whole 0)) grid
    (λ r c was down across. ap (λ b. not b && was) (none_before (index r c) (whole r c)))

-- all parts
pub all_parts_erased : (p : Image) (index : ℕ → ℕ → ℕ) (whole : Figure) (n : ℕ)
    → ((r c : ℕ) → r < p.height → c < p.width → whole r c ≡ true → index r c < n) → erased p (before index whole n) ≡ erased p whole
all_parts_erased p index whole n within =
    erased-alike p (before index whole n) whole (λ r c down across. all_before (index r c) n (whole r c) (within r c down across))

white_where : (b was : Bool) → cond b false was ≡ (not b && was)
white_where true was = refl
white_where false was = refl

-- one pixel
pub pixel_erased : (p : Image) (row col : ℕ) → IsGrid p.width p.height p.rows → row < p.height → col < p.width
    → with_pixel p row col false ≡ erased p (λ r c. (r == row) && (c == col))
pixel_erased p row col grid within short =
    ap (with_rows p) (grid_by_cells p.width p.height (with_cell p.rows row col false) (λ r c. not ((r == row) && (c == col)) && pixel p r c)
    (with_cell_is_grid p.width p.height p.rows row col false within grid)
    (λ r c down across.
    cell-with_cell p.width p.height p.rows row col false grid within short r c ∙ white_where ((r == row) && (c == col)) (pixel p r c)))
