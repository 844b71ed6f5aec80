-- Figures inked one after another, against the figure that they make together.
use Rattle.std.proofs.Common.{ℕ, ◌≡◌, ◌<◌, Bool, true, false, List, ◌+◌, ◌==◌, ◌&&◌, ◌||◌, nat_lt, refl, sym, ap, ◌∙◌, arith}
use Rattle.std.proofs.lemmas.Bool.Decides.{nat_tests}
use Rattle.bp_rows.specs.Image.{Image, IsGrid, IsPage, pixel}
use Rattle.bp_rows.proofs.GridLemmas.{cell-grid_of, grid_of_is_grid, same_grids, grid_by_cells}
use Rattle.bp_burn.specs.Ink.{inked}

abbrev pub Figure : Type 0
Figure = ℕ → ℕ → Bool

-- two figures have the same pixels of a page
abbrev pub Alike : Image → Figure → Figure → Type 0
Alike p one other = (r c : ℕ) → r < p.height → c < p.width → one r c ≡ other r c

abbrev with_rows : Image → List (List Bool) → Image
with_rows p rows = record p { rows = rows }

pub pixel-inked : (p : Image) (f : Figure) (r c : ℕ) → r < p.height → c < p.width → pixel (inked p f) r c ≡ (f r c || pixel p r c)
pixel-inked p f r c down across = cell-grid_of p.width p.height (λ i j. f i j || pixel p i j) r c down across

pub inked_is_grid : (p : Image) (f : Figure) → IsGrid p.width p.height (inked p f).rows
inked_is_grid p f = grid_of_is_grid p.width p.height (λ r c. f r c || pixel p r c)

-- an inked page is a page
pub inked_page : (p : Image) (f : Figure) → IsPage p → IsPage (inked p f)
inked_page p f page = record { sides = page.sides; xres = page.xres; yres = page.yres; grid = inked_is_grid p f }

-- nothing inked
pub inked-nothing : (p : Image) (f : Figure) → IsGrid p.width p.height p.rows → Alike p f (λ r c. false) → p ≡ inked p f
inked-nothing p f grid none =
    ap (with_rows p) (grid_by_cells p.width p.height p.rows (λ r c. f r c || pixel p r c) grid
    (λ r c down across. sym (ap (λ b. b || pixel p r c) (none r c down across))))

-- figures with the same pixels
pub inked-alike : (p : Image) (f g : Figure) → Alike p f g → inked p f ≡ inked p g
inked-alike p f g same =
    ap (with_rows p)
    (same_grids p.width p.height (inked p f).rows (inked p g).rows (inked_is_grid p f) (inked_is_grid p g)
    (λ r c down across.
    pixel-inked p f r c down across ∙ ap (λ b. b || pixel p r c) (same r c down across) ∙ sym (pixel-inked p g r c down across)))

joined : (a b c : Bool) → (a || (b || c)) ≡ ((a || b) || c)
joined true b c = refl
joined false b c = refl

-- one figure after another
pub inked-inked : (p : Image) (first second both : Figure) → Alike p (λ r c. second r c || first r c) both
    → inked (inked p first) second ≡ inked p both
inked-inked p first second both together =
    ap (with_rows p)
    (same_grids p.width p.height (inked (inked p first) second).rows (inked p both).rows (inked_is_grid (inked p first) second) (inked_is_grid p both)
    (λ r c down across.
    pixel-inked (inked p first) second r c down across
    ∙ ap (λ b. second r c || b) (pixel-inked p first r c down across)
    ∙ joined (second r c) (first r c) (pixel p r c)
    ∙ ap (λ b. b || pixel p r c) (together r c down across)
    ∙ sym (pixel-inked p both r c down across)))

-- ---- figures drawn part by part: each pixel belongs to the part of its index

-- the parts before one
abbrev pub before : (ℕ → ℕ → ℕ) → Figure → ℕ → Figure
before index whole n r c = nat_lt (index r c) n && whole r c

-- one part
abbrev pub part : (ℕ → ℕ → ℕ) → Figure → ℕ → Figure
part index whole n r c = (index r c == n) && whole r c

pub part_joins : (j n : ℕ) (b : Bool) → (((j == n) && b) || (nat_lt j n && b)) ≡ (nat_lt j (n + 1) && b)
part_joins j n true = grind (arith, nat_tests)
part_joins j n false = grind (arith, nat_tests)

-- one part more
pub part_inked : (p : Image) (index : ℕ → ℕ → ℕ) (whole figure : Figure) (n : ℕ) → Alike p figure (part index whole n)
    → inked (inked p (before index whole n)) figure ≡ inked p (before index whole (n + 1))
part_inked p index whole figure n is =
    inked-inked p (before index whole n) figure (before index whole (n + 1))
    (λ r c down across. ap (λ b. b || before index whole n r c) (is r c down across) ∙ part_joins (index r c) n (whole r c))

pub none_joins : (b d e : Bool) → b ≡ false → (b || d) ≡ e → d ≡ e
none_joins b d e none is = rw none at is

-- a part without a pixel
pub part_white : (p : Image) (index : ℕ → ℕ → ℕ) (whole : Figure) (n : ℕ) → Alike p (part index whole n) (λ r c. false)
    → inked p (before index whole n) ≡ inked p (before index whole (n + 1))
part_white p index whole n none =
    inked-alike p (before index whole n) (before index whole (n + 1))
    (λ r c down across. none_joins (part index whole n r c) (before index whole n r c) (before index whole (n + 1) r c) (none r c down across) (part_joins (index r c) n (whole r c)))

pub none_before : (j : ℕ) (b : Bool) → (nat_lt j 0 && b) ≡ false
none_before j b = grind (arith, nat_tests)

-- no part
pub no_part : (p : Image) (index : ℕ → ℕ → ℕ) (whole : Figure) → IsGrid p.width p.height p.rows → p ≡ inked p (before index whole 0)
no_part p index whole grid = inked-nothing p (before index whole 0) grid (λ r c down across. none_before (index r c) (whole r c))

pub all_before : (j n : ℕ) (b : Bool) → (b ≡ true → j < n) → (nat_lt j n && b) ≡ b
all_before j n true within = let less = within refl in grind (arith, nat_tests)
all_before j n false within = grind (arith, nat_tests)

-- all parts
pub all_parts : (p : Image) (index : ℕ → ℕ → ℕ) (whole : Figure) (n : ℕ)
    → ((r c : ℕ) → r < p.height → c < p.width → whole r c ≡ true → index r c < n) → inked p (before index whole n) ≡ inked p whole
all_parts p index whole n within =
    inked-alike p (before index whole n) whole (λ r c down across. all_before (index r c) n (whole r c) (within r c down across))
