-- The strip of a page that goes out under way: what was read and added so far.
use Rattle.std.proofs.Common.{ℕ, zero, suc, ◌≡◌, ◌+◌, ◌-◌, ◌*◌, ◌<◌, ◌≤◌, ◌&&◌, ◌||◌, Bool, true, false, nat_le, nat_lt, List, [], ◌∷◌, ◌++◌, length, take, refl, sym, ap, subst, ◌∙◌, arith, append-nil, append_assoc}
use Rattle.std.specs.Prelude.{IsTrue}
use Rattle.std.proofs.lemmas.Bool.{and_from, le-leb, leb-true, lt-ltb, ltb-true}
use Rattle.std.proofs.lemmas.List.{take_all, take_more}
use Rattle.bp_core.specs.declared.stamps.Ink.{Ink}
use Rattle.bp_core.specs.declared.stamps.Stamp.{Stamp}
use Rattle.bp_rows.specs.declared.resolution.Unit.TheVariants.{Inch}
use Rattle.bp_rows.specs.Image.{Image, IsGrid, IsPage, grid_of, pixel, row_of, white_image}
use Rattle.bp_rows.specs.Limits.{sides_are_allowed, sides_are_imported}
use Rattle.bp_rows.proofs.GridLemmas.{cell-grid_of, cell-white, grid_of_is_grid, same_grids, white_is_grid}
use Rattle.bp_t6.specs.SoFar.{AddedSoFar, HasAdded, last_line, row_above}
use Rattle.bp_t6.specs.Written.{white_line}
use Rattle.bp_t6.proofs.StripLemmas.{last-more}
use Rattle.bp_burn.specs.Band.{band_texts, produced_of, slip_resolution}
use Rattle.bp_burn.specs.Covered.{covered, covered_pixel}
use Rattle.bp_burn.specs.Ink.{inked}
use Rattle.bp_burn.specs.Strips.{band_rows, touches_above, touches_row}
use Rattle.bp_burn.proofs.BandLemmas.{five}
use Rattle.bp_burn.proofs.ChangeLemmas.{changed_is_grid}
use Rattle.bp_burn.proofs.InkLemmas.{Figure}
use Rattle.bp_burn.proofs.StripLemmas.{or_false, produced_rows, untouched_row}

-- the width of a page that comes in
pub imported_width : (w h : ℕ) → IsTrue (sides_are_imported w h) → (0 < w) × (w ≤ 20000)
imported_width w h imported =
    let parts = five (nat_lt 0 w) (nat_le w 20000) (nat_lt 0 h) (nat_le h 20000) (nat_le (w * h) 200000000) imported in
    (ltb-true 0 w parts.0, leb-true w 20000 parts.1)

-- one row more of those of a page
pub one_row_more : (q : Image) (row : ℕ) → IsGrid q.width q.height q.rows → row < q.height
    → take (row + 1) q.rows ≡ take row q.rows ++ row_of q row ∷ []
one_row_more q row grid down = take_more q.rows row [] (omega (arith, grid.down))

-- all rows of the page that goes out
pub rows_out : (ink : Ink) (p : Image) (stamps : List Stamp) (label designation : List ℕ) (width : ℕ) → p.width ≡ width
    → (covered ink p stamps).rows ++ band_rows width label designation ≡ (produced_of ink p stamps label designation).rows
rows_out ink p stamps label designation width wide =
    ap (λ w. (covered ink p stamps).rows ++ band_rows w label designation) (sym wide)
    ∙ sym (produced_rows ink p stamps label designation)

-- the row above one that is touched neither itself nor there is the page's
above_row : (p : Image) (ink : Ink) (stamps : List Stamp) (row : ℕ) → IsPage p → row < p.height → touches_row stamps row ≡ false
    → last_line (white_line p.width) (take (row + 1) (covered ink p stamps).rows) ≡ last_line (white_line p.width) (take (row + 1) p.rows)
above_row p ink stamps row page down none =
    let q = covered ink p stamps in
    let white = white_line p.width in
    let grid = changed_is_grid p (covered_pixel ink stamps) in
    let same = untouched_row p ink stamps row down (page.grid.across row down) none in
    ap (last_line white) (one_row_more q row grid down) ∙ last-more white (take row q.rows) (row_of q row)
    ∙ sym (ap (last_line white) (one_row_more p row page.grid down) ∙ last-more white (take row p.rows) (row_of p row) ∙ same)

pub same_above : (p : Image) (ink : Ink) (stamps : List Stamp) (row : ℕ) → IsPage p → row < p.height → touches_above stamps row ≡ false
    → last_line (white_line p.width) (take row (covered ink p stamps).rows) ≡ row_above p row
same_above p ink stamps zero page down none = refl
same_above p ink stamps (suc n) page down none =
    let less : nat_lt 0 (suc n) ≡ true = lt-ltb 0 (suc n) (omega arith) in
    let back : suc n - 1 ≡ n = omega arith in
    let next : n + 1 ≡ suc n = omega arith in
    let above : touches_row stamps n ≡ false =
    ap (touches_row stamps) (sym back) ∙ sym (ap (λ b. b && touches_row stamps (suc n - 1)) less) ∙ none in
    subst (λ (m : ℕ). last_line (white_line p.width) (take m (covered ink p stamps).rows) ≡ last_line (white_line p.width) (take m p.rows)) next
    (above_row p ink stamps n page (omega arith) above)

-- what is known after so many rows of a band were added
pub record Adding (width : ℕ) (old writer : AddedSoFar) (rows : List (List Bool)) (row : ℕ) : Type 0 where
  pub wide : writer.width ≡ width
  pub added : (lines : List (List Bool)) → HasAdded old lines → HasAdded writer (lines ++ take row rows)

-- a row more
pub adding_more : (width : ℕ) (old before after : AddedSoFar) (q : Image) (row : ℕ)
    → IsGrid q.width q.height q.rows → row < q.height → Adding width old before q.rows row
    → after.width ≡ before.width → ((lines : List (List Bool)) → HasAdded before lines → HasAdded after (lines ++ row_of q row ∷ []))
    → Adding width old after q.rows (row + 1)
adding_more width old before after q row grid down so_far wide more = record {
  wide = wide ∙ so_far.wide;
  added = λ lines held.
      let P : List (List Bool) → Type 0 = λ all. HasAdded after all in
      let front = take row q.rows in
      subst P
      (append_assoc lines front (row_of q row ∷ []) ∙ ap (λ rows. lines ++ rows) (sym (one_row_more q row grid down)))
      (more (lines ++ front) (so_far.added lines held));
}

-- none yet
pub adding_none : (width : ℕ) (old : AddedSoFar) (rows : List (List Bool)) → old.width ≡ width → Adding width old old rows 0
adding_none width old rows wide = record {
  wide = wide;
  added = λ lines held. let P : List (List Bool) → Type 0 = λ all. HasAdded old all in subst P (sym (append-nil lines)) held;
}

-- all of them
pub adding_all : (width : ℕ) (old writer : AddedSoFar) (rows : List (List Bool)) (row : ℕ) → Adding width old writer rows row → length rows ≤ row
    → (lines : List (List Bool)) → HasAdded old lines → HasAdded writer (lines ++ rows)
adding_all width old writer rows row so_far all lines held =
    let P : List (List Bool) → Type 0 = λ rs. HasAdded writer (lines ++ rs) in
    subst P (take_all row rows all) (so_far.added lines held)

-- a white row is a page
pub line_sides : (w : ℕ) → 0 < w → w ≤ 20000 → IsTrue (sides_are_allowed w 1)
line_sides w some wide =
    and_from (nat_lt 0 w && nat_le w 20000 && nat_lt 0 1 && nat_le 1 20032) (nat_le (w * 1) 200640000)
    (and_from (nat_lt 0 w && nat_le w 20000 && nat_lt 0 1) (nat_le 1 20032)
    (and_from (nat_lt 0 w && nat_le w 20000) (nat_lt 0 1) (and_from (nat_lt 0 w) (nat_le w 20000) (lt-ltb 0 w some) (le-leb w 20000 wide)) refl) refl)
    (le-leb (w * 1) 200640000 (omega arith))

-- white rows of the band's height are a page
pub band_sides : (w : ℕ) → 0 < w → w ≤ 20000 → IsTrue (sides_are_allowed w 32)
band_sides w some wide =
    and_from (nat_lt 0 w && nat_le w 20000 && nat_lt 0 32 && nat_le 32 20032) (nat_le (w * 32) 200640000)
    (and_from (nat_lt 0 w && nat_le w 20000 && nat_lt 0 32) (nat_le 32 20032)
    (and_from (nat_lt 0 w && nat_le w 20000) (nat_lt 0 32) (and_from (nat_lt 0 w) (nat_le w 20000) (lt-ltb 0 w some) (le-leb w 20000 wide)) refl) refl)
    (le-leb (w * 32) 200640000 (omega arith))

pub band_page : (w : ℕ) → 0 < w → w ≤ 20000 → IsPage (white_image w 32 slip_resolution slip_resolution Inch)
band_page w some wide = record {
  sides = band_sides w some wide;
  xres = record { num = omega arith; den = omega arith };
  yres = record { num = omega arith; den = omega arith };
  grid = white_is_grid w 32;
}

-- a figure drawn on white rows
pub white_inked : (w h : ℕ) (f : Figure) → (inked (white_image w h slip_resolution slip_resolution Inch) f).rows ≡ grid_of w h f
white_inked w h f =
    let q = white_image w h slip_resolution slip_resolution Inch in
    let g : Figure = λ r c. f r c || pixel q r c in
    same_grids w h (grid_of w h g) (grid_of w h f) (grid_of_is_grid w h g) (grid_of_is_grid w h f)
    (λ r c down across.
    cell-grid_of w h g r c down across ∙ ap (λ b. f r c || b) (cell-white w h r c down across) ∙ or_false (f r c)
    ∙ sym (cell-grid_of w h f r c down across))

-- the band drawn on white rows
pub band_is : (w : ℕ) (label designation : List ℕ)
    → (inked (white_image w 32 slip_resolution slip_resolution Inch) (band_texts w 0 label designation)).rows ≡ band_rows w label designation
band_is w label designation = white_inked w 32 (band_texts w 0 label designation)
