-- Pages that agree outside the stamps are covered to one page, in either ink.
use Rattle.std.proofs.Common.{ℕ, ◌≡◌, ◌&&◌, ◌||◌, not, Bool, true, false, Option, Some, None, List, [], ◌∷◌, refl, ap, ◌∙◌, if◌then◌else◌}
use Rattle.bp_core.specs.Rectangle.{has_pixel}
use Rattle.bp_core.specs.declared.stamps.Ink.{Ink}
use Rattle.bp_core.specs.declared.stamps.Ink.TheVariants.{Black, Lettered}
use Rattle.bp_core.specs.declared.stamps.Stamp.{Stamp}
use Rattle.bp_rows.specs.Burned.{AgreeOutside, covers_pixel}
use Rattle.bp_rows.specs.Image.{Image, grid_of, pixel}
use Rattle.bp_rows.specs.declared.resolution.Res.{Res}
use Rattle.bp_rows.specs.declared.resolution.Unit.{Unit as LengthUnit}
use Rattle.bp_rows.proofs.GridLemmas.{cell-grid_of, grid_by_cells, grid_of_is_grid}
use Rattle.bp_burn.specs.Covered.{covered, covered_pixel, has_letter, is_lettered, last_with, rects_of}

-- ---- a pixel

abbrev or_first : Option Stamp → Stamp → Bool → Option Stamp
or_first later s has = elim later [ None ↦ (if has then Some s else None) | Some t ↦ Some t ]

not_covered : (s : Stamp) (later : Option Stamp) (has rest : Bool) → (later ≡ None → rest ≡ false) → or_first later s has ≡ None → (has || rest) ≡ false
not_covered s None true rest others none = cc
not_covered s None false rest others none = others refl
not_covered s (Some t) has rest others none = cc

-- where no stamp decides, no rectangle has the pixel
none_covers : (stamps : List Stamp) (r c : ℕ) → last_with stamps r c ≡ None → covers_pixel (rects_of stamps) r c ≡ false
none_covers [] r c none = refl
none_covers (s ∷ stamps) r c none =
    not_covered s (last_with stamps r c) (has_pixel s.rect r c) (covers_pixel (rects_of stamps) r c) (none_covers stamps r c) none

or_alike : (b x y : Bool) → (b ≡ false → x ≡ y) → (b || x) ≡ (b || y)
or_alike true x y same = refl
or_alike false x y same = same refl

abbrev decided : ℕ → ℕ → Bool → Option Stamp → Bool
decided r c was found = elim found [ None ↦ was | Some s ↦ not (is_lettered s && has_letter s r c) ]

decided_alike : (r c : ℕ) (x y : Bool) (found : Option Stamp) → (found ≡ None → x ≡ y) → decided r c x found ≡ decided r c y found
decided_alike r c x y None same = same refl
decided_alike r c x y (Some s) same = refl

-- what becomes of a pixel tells of it only where no rectangle has it
covered_alike : (ink : Ink) (stamps : List Stamp) (r c : ℕ) (x y : Bool) → (covers_pixel (rects_of stamps) r c ≡ false → x ≡ y)
    → covered_pixel ink stamps r c x ≡ covered_pixel ink stamps r c y
covered_alike Black stamps r c x y same = or_alike (covers_pixel (rects_of stamps) r c) x y same
covered_alike Lettered stamps r c x y same = decided_alike r c x y (last_with stamps r c) (λ none. same (none_covers stamps r c none))

-- ---- the page

abbrev image : ℕ → ℕ → Res → Res → LengthUnit → List (List Bool) → Image
image w h x y u rs = record { width = w; height = h; xres = x; yres = y; unit = u; rows = rs }

pub covered-AgreeOutside : (ink : Ink) (stamps : List Stamp) (p q : Image) → AgreeOutside (rects_of stamps) p q → covered ink p stamps ≡ covered ink q stamps
covered-AgreeOutside ink stamps p q agree =
    let f : ℕ → ℕ → Bool = λ r c. covered_pixel ink stamps r c (pixel p r c) in
    let g : ℕ → ℕ → Bool = λ r c. covered_pixel ink stamps r c (pixel q r c) in
    let rows : grid_of p.width p.height f ≡ grid_of p.width p.height g =
    grid_by_cells p.width p.height (grid_of p.width p.height f) g (grid_of_is_grid p.width p.height f)
    (λ r c down across.
    cell-grid_of p.width p.height f r c down across
    ∙ covered_alike ink stamps r c (pixel p r c) (pixel q r c) (agree.pixels r c down across)) in
    ap (image p.width p.height p.xres p.yres p.unit) rows
    ∙ ap (λ w. image w p.height p.xres p.yres p.unit (grid_of w p.height g)) agree.width
    ∙ ap (λ h. image q.width h p.xres p.yres p.unit (grid_of q.width h g)) agree.height
    ∙ ap (λ x. image q.width q.height x p.yres p.unit (grid_of q.width q.height g)) agree.xres
    ∙ ap (λ y. image q.width q.height q.xres y p.unit (grid_of q.width q.height g)) agree.yres
    ∙ ap (λ u. image q.width q.height q.xres q.yres u (grid_of q.width q.height g)) agree.unit
