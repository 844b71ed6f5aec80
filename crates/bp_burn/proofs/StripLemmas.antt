-- The rows of a page that goes out, one behind another: those of the covered page, and the band's.
use Rattle.std.proofs.Common.{ℕ, ◌≡◌, ◌+◌, ◌-◌, ◌<◌, ◌≤◌, ◌&&◌, ◌||◌, Bool, true, false, nat_le, nat_lt, Option, Some, None, List, [], ◌∷◌, ◌++◌, length, get_or, refl, sym, ap, ◌∙◌, arith, inl, inr, length-append, zero-add, if◌then◌else◌}
use Rattle.std.proofs.lemmas.Bool.{cases_lt}
use Rattle.std.proofs.lemmas.Bool.Decides.{nat_tests}
use Rattle.std.proofs.lemmas.List.{ext_get_or, get_or-append_right, get_or_append_left, get_or_past}
use Rattle.std.proofs.lemmas.List.FromFn.{get_or-map-range_with_len, length-map-range_with_len}
use Rattle.bp_core.specs.Rectangle.{has_pixel}
use Rattle.bp_core.specs.declared.rectangle.Rect.{Rect}
use Rattle.bp_core.specs.declared.stamps.Ink.{Ink}
use Rattle.bp_core.specs.declared.stamps.Ink.TheVariants.{Black, Lettered}
use Rattle.bp_core.specs.declared.stamps.Stamp.{Stamp}
use Rattle.bp_rows.specs.Burned.{covers_pixel}
use Rattle.bp_rows.specs.Image.{Image, IsGrid, grid_of, pixel, row_of}
use Rattle.bp_rows.proofs.GridLemmas.{cell-grid_of, grid_of_is_grid, same_grids}
use Rattle.bp_burn.specs.Band.{band_texts, banded, produced_of}
use Rattle.bp_burn.specs.Covered.{covered, covered_pixel, last_with, rects_of}
use Rattle.bp_burn.specs.Drawn.{columns_of, is_drawn, text_pixel}
use Rattle.bp_burn.specs.Strips.{band_rows, has_row, touches_row}
use Rattle.bp_burn.proofs.ChangeLemmas.{changed_is_grid}
use Rattle.bp_burn.proofs.CoverLemmas.{decided}
use Rattle.bp_burn.proofs.RowLemmas.{row-changed}

-- ---- a row that no stamp touches

neither : (a b : Bool) → (a || b) ≡ false → (a ≡ false) × (b ≡ false)
neither true b none = cc
neither false b none = (refl, none)

no_column : (a b x y : Bool) → (a && b) ≡ false → (((a && b) && x) && y) ≡ false
no_column true true x y none = cc
no_column true false x y none = refl
no_column false b x y none = refl

no_pixel : (box : Rect) (row c : ℕ) → has_row box row ≡ false → has_pixel box row c ≡ false
no_pixel box row c none =
    no_column (nat_le box.top row) (nat_lt row (box.top + box.height)) (nat_le box.left c) (nat_lt c (box.left + box.width)) none

no_cover : (stamps : List Stamp) (row c : ℕ) → touches_row stamps row ≡ false → covers_pixel (rects_of stamps) row c ≡ false
no_cover [] row c none = refl
no_cover (s ∷ stamps) row c none =
    let parts = neither (has_row s.rect row) (touches_row stamps row) none in
    ap (λ b. b || covers_pixel (rects_of stamps) row c) (no_pixel s.rect row c parts.0) ∙ no_cover stamps row c parts.1

abbrev or_first : Option Stamp → Stamp → Bool → Option Stamp
or_first later s has = elim later [ None ↦ (if has then Some s else None) | Some t ↦ Some t ]

no_last : (stamps : List Stamp) (row c : ℕ) → touches_row stamps row ≡ false → last_with stamps row c ≡ None
no_last [] row c none = refl
no_last (s ∷ stamps) row c none =
    let parts = neither (has_row s.rect row) (touches_row stamps row) none in
    ap (λ later. or_first later s (has_pixel s.rect row c)) (no_last stamps row c parts.1)
    ∙ ap (λ b. or_first None s b) (no_pixel s.rect row c parts.0)

untouched_pixel : (ink : Ink) (stamps : List Stamp) (row c : ℕ) (was : Bool) → touches_row stamps row ≡ false → covered_pixel ink stamps row c was ≡ was
untouched_pixel Black stamps row c was none = ap (λ b. b || was) (no_cover stamps row c none)
untouched_pixel Lettered stamps row c was none = ap (λ (found : Option Stamp). decided row c was found) (no_last stamps row c none)

-- it stays as it was
pub untouched_row : (p : Image) (ink : Ink) (stamps : List Stamp) (row : ℕ) → row < p.height → length (row_of p row) ≡ p.width
    → touches_row stamps row ≡ false → row_of p row ≡ row_of (covered ink p stamps) row
untouched_row p ink stamps row down wide none =
    let line : ℕ → Bool = λ c. covered_pixel ink stamps row c (pixel p row c) in
    let is = row-changed p (covered_pixel ink stamps) row down in
    ext_get_or false (row_of p row) (row_of (covered ink p stamps) row)
    (wide ∙ sym (ap length is ∙ length-map-range_with_len line 0 p.width))
    (λ c short.
    let across : c < p.width = omega (arith, short, wide) in
    sym (ap (λ l. get_or l c false) is ∙ get_or-map-range_with_len line 0 p.width c c false across (zero-add c)
    ∙ untouched_pixel ink stamps row c (pixel p row c) none))

-- ---- the rows of the band

shifted_drawn : (text : List ℕ) (h left hidden r c : ℕ) → h ≤ r → is_drawn text (h + 5) left hidden r c ≡ is_drawn text (0 + 5) left hidden (r - h) c
shifted_drawn text h left hidden r c past =
    let down : nat_le (h + 5) r ≡ nat_le (0 + 5) (r - h) = grind (arith, nat_tests) in
    let row : r - (h + 5) ≡ r - h - (0 + 5) = omega arith in
    ap (λ b. b && (nat_le left (c + hidden) && text_pixel text (r - (h + 5)) (c + hidden - left))) down
    ∙ ap (λ v. nat_le (0 + 5) (r - h) && (nat_le left (c + hidden) && text_pixel text v (c + hidden - left))) row

shifted_texts : (w h : ℕ) (label designation : List ℕ) (r c : ℕ) → h ≤ r → band_texts w h label designation r c ≡ band_texts w 0 label designation (r - h) c
shifted_texts w h label designation r c past =
    ap (λ b. b || is_drawn label (h + 5) w (16 + columns_of label) r c) (shifted_drawn designation h 16 0 r c past)
    ∙ ap (λ b. is_drawn designation (0 + 5) 16 0 (r - h) c || b) (shifted_drawn label h w (16 + columns_of label) r c past)

-- a text has no pixel above its first row
pub not_below : (top r : ℕ) (b : Bool) → r < top → (nat_le top r && b) ≡ false
not_below top r b less = ap (λ a. a && b) (later top r less)
  where
    later : (top r : ℕ) → r < top → nat_le top r ≡ false
    later top r less = grind (arith, nat_tests)

no_texts : (w h : ℕ) (label designation : List ℕ) (r c : ℕ) → r < h → band_texts w h label designation r c ≡ false
no_texts w h label designation r c above =
    let less : r < h + 5 = omega arith in
    ap (λ b. b || is_drawn label (h + 5) w (16 + columns_of label) r c)
    (not_below (h + 5) r (nat_le 16 (c + 0) && text_pixel designation (r - (h + 5)) (c + 0 - 16)) less)
    ∙ not_below (h + 5) r (nat_le w (c + (16 + columns_of label)) && text_pixel label (r - (h + 5)) (c + (16 + columns_of label) - w)) less

white_below : (q : Image) (r c : ℕ) → IsGrid q.width q.height q.rows → q.height ≤ r → pixel q r c ≡ false
white_below q r c grid past = ap (λ row. get_or row c false) (get_or_past q.rows r [] (omega (arith, grid.down)))

pub joined_grid : (w h k : ℕ) (a b : List (List Bool)) → IsGrid w h a → IsGrid w k b → IsGrid w (h + k) (a ++ b)
joined_grid w h k a b first second = record {
  down = length-append a b ∙ ap (λ n. n + length b) first.down ∙ ap (λ n. h + n) second.down;
  across = λ r below.
      elim (cases_lt r h) [
        | inl old ↦ ap length (get_or_append_left a b [] r (omega (arith, first.down))) ∙ first.across r old
        | inr new ↦ ap length (get_or-append_right a b h r [] first.down new) ∙ second.across (r - h) (omega arith)
      ];
}

pub or_false : (b : Bool) → (b || false) ≡ b
or_false true = refl
or_false false = refl

-- the rows of a page with its band
pub banded_rows : (q : Image) (label designation : List ℕ) → IsGrid q.width q.height q.rows
    → (banded q label designation).rows ≡ q.rows ++ band_rows q.width label designation
banded_rows q label designation grid =
    let w = q.width in
    let h = q.height in
    let texts = band_texts w h label designation in
    let f : ℕ → ℕ → Bool = λ r c. texts r c || pixel q r c in
    let band = band_rows w label designation in
    same_grids w (h + 32) (grid_of w (h + 32) f) (q.rows ++ band) (grid_of_is_grid w (h + 32) f)
    (joined_grid w h 32 q.rows band grid (grid_of_is_grid w 32 (band_texts w 0 label designation)))
    (λ r c down across.
    cell-grid_of w (h + 32) f r c down across
    ∙ elim (cases_lt r h) [
      | inl old ↦
          ap (λ b. b || pixel q r c) (no_texts w h label designation r c old)
          ∙ sym (ap (λ row. get_or row c false) (get_or_append_left q.rows band [] r (omega (arith, grid.down))))
      | inr new ↦
          ap (λ b. texts r c || b) (white_below q r c grid new)
          ∙ or_false (texts r c)
          ∙ shifted_texts w h label designation r c new
          ∙ sym (ap (λ row. get_or row c false) (get_or-append_right q.rows band h r [] grid.down new)
          ∙ cell-grid_of w 32 (band_texts w 0 label designation) (r - h) c (omega arith) across)
    ])

-- the rows of the page that goes out
pub produced_rows : (ink : Ink) (p : Image) (stamps : List Stamp) (label designation : List ℕ)
    → (produced_of ink p stamps label designation).rows ≡ (covered ink p stamps).rows ++ band_rows p.width label designation
produced_rows ink p stamps label designation =
    banded_rows (covered ink p stamps) label designation (changed_is_grid p (covered_pixel ink stamps))
