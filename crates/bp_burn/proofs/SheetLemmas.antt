-- The rows of a slip sheet, one part behind another: white ones, those of its text, white ones, and the band's.
use Rattle.std.proofs.Common.{ℕ, ◌≡◌, ◌+◌, ◌-◌, ◌<◌, ◌&&◌, Bool, false, nat_le, List, [], ◌∷◌, ◌++◌, get_or, refl, sym, ap, subst, ◌∙◌, arith, inl, inr}
use Rattle.std.proofs.lemmas.Bool.{cases_lt}
use Rattle.std.proofs.lemmas.Bool.Decides.{nat_tests}
use Rattle.std.proofs.lemmas.List.{get_or-append_right, get_or-replicate, get_or_append_left}
use Rattle.bp_core.specs.declared.review.Basis.{Basis}
use Rattle.bp_rows.specs.declared.resolution.Unit.TheVariants.{Inch}
use Rattle.bp_rows.specs.Image.{Image, IsPage, grid_of, row_of, white_image}
use Rattle.bp_rows.proofs.GridLemmas.{cell-grid_of, cell-white, grid_by_cells, grid_of_is_grid, same_grids, white_is_grid}
use Rattle.bp_t6.specs.SoFar.{AddedSoFar, HasAdded}
use Rattle.bp_t6.specs.Written.{white_line}
use Rattle.bp_burn.specs.Band.{slip_of, slip_resolution, slip_text}
use Rattle.bp_burn.specs.Drawn.{is_drawn, text_pixel}
use Rattle.bp_burn.specs.Ink.{inked}
use Rattle.bp_burn.specs.Strips.{band_rows, slip_text_rows, white_rows}
use Rattle.bp_burn.proofs.BandLemmas.{same_grid}
use Rattle.bp_burn.proofs.InkLemmas.{Figure, inked_is_grid}
use Rattle.bp_burn.proofs.MakingLemmas.{Adding, adding_more, white_inked}
use Rattle.bp_burn.proofs.StripLemmas.{banded_rows, joined_grid, not_below}
use Rattle.bp_burn.proofs.TextLemmas.{drawn_above}

abbrev paper : ℕ → ℕ → Image
paper width height = white_image width height slip_resolution slip_resolution Inch

-- a white row more
pub adding_white : (width : ℕ) (old before after : AddedSoFar) (rows row : ℕ) → row < rows
    → Adding width old before (white_rows width rows) row → after.width ≡ before.width
    → ((lines : List (List Bool)) → HasAdded before lines → HasAdded after (lines ++ white_line before.width ∷ []))
    → Adding width old after (white_rows width rows) (row + 1)
adding_white width old before after rows row down so_far wide more =
    let q = paper width rows in
    let white : white_line before.width ≡ row_of q row =
    ap white_line so_far.wide ∙ sym (get_or-replicate rows row (white_line width) [] down) in
    adding_more width old before after q row (white_is_grid width rows) down so_far wide
    (λ lines held. subst (λ (line : List Bool). HasAdded after (lines ++ line ∷ [])) white (more lines held))

-- the rows of a grid in two parts
split_grid : (w a b : ℕ) (f : Figure) → grid_of w (a + b) f ≡ grid_of w a f ++ grid_of w b (λ r c. f (a + r) c)
split_grid w a b f =
    let g : Figure = λ r c. f (a + r) c in
    let front = grid_of w a f in
    let back = grid_of w b g in
    let first = grid_of_is_grid w a f in
    same_grids w (a + b) (grid_of w (a + b) f) (front ++ back) (grid_of_is_grid w (a + b) f)
    (joined_grid w a b front back first (grid_of_is_grid w b g))
    (λ r c down across.
    cell-grid_of w (a + b) f r c down across
    ∙ elim (cases_lt r a) [
      | inl old ↦
          sym (ap (λ row. get_or row c false) (get_or_append_left front back [] r (omega (arith, first.down)))
          ∙ cell-grid_of w a f r c old across)
      | inr new ↦
          let same : a + (r - a) ≡ r = omega arith in
          sym (ap (λ row. get_or row c false) (get_or-append_right front back a r [] first.down new)
          ∙ cell-grid_of w b g (r - a) c (omega arith) across
          ∙ ap (λ n. f n c) same)
    ])

-- rows without a pixel are white
white_grid : (w h : ℕ) (f : Figure) → ((r c : ℕ) → r < h → f r c ≡ false) → grid_of w h f ≡ white_rows w h
white_grid w h f none =
    sym (grid_by_cells w h (white_rows w h) f (white_is_grid w h) (λ r c down across. cell-white w h r c down across ∙ sym (none r c down)))

-- a text at the top of a page, and further down
moved_down : (text : List ℕ) (top left r c : ℕ) → is_drawn text top left 0 (top + r) c ≡ is_drawn text 0 left 0 r c
moved_down text top left r c =
    let down : nat_le top (top + r) ≡ nat_le 0 r = grind (arith, nat_tests) in
    let row : top + r - top ≡ r - 0 = omega arith in
    ap (λ b. b && (nat_le left (c + 0) && text_pixel text (top + r - top) (c + 0 - left))) down
    ∙ ap (λ v. nat_le 0 r && (nat_le left (c + 0) && text_pixel text v (c + 0 - left))) row

-- the rows of a text among white ones
text_among : (w top below left : ℕ) (text : List ℕ)
    → grid_of w (top + 21 + below) (is_drawn text top left 0)
    ≡ (white_rows w top ++ grid_of w 21 (is_drawn text 0 left 0)) ++ white_rows w below
text_among w top below left text =
    let f = is_drawn text top left 0 in
    let within : Figure = λ r c. f (top + r) c in
    let behind : Figure = λ r c. f (top + 21 + r) c in
    split_grid w (top + 21) below f
    ∙ ap (λ rows. rows ++ grid_of w below behind)
    (split_grid w top 21 f
    ∙ ap (λ rows. rows ++ grid_of w 21 within)
    (white_grid w top f (λ r c above. not_below top r (nat_le left (c + 0) && text_pixel text (r - top) (c + 0 - left)) above))
    ∙ ap (λ rows. white_rows w top ++ rows)
    (same_grid w 21 within (is_drawn text 0 left 0) (λ r c down across. moved_down text top left r c)))
    ∙ ap (λ rows. (white_rows w top ++ grid_of w 21 (is_drawn text 0 left 0)) ++ rows)
    (white_grid w below behind (λ r c down. drawn_above text top left 0 (top + 21 + r) c (omega arith)))

-- the text drawn on white rows
pub slip_text_is : (basis : Basis) → (inked (paper 1700 21) (is_drawn (slip_text basis) 0 200 0)).rows ≡ slip_text_rows basis
slip_text_is basis = white_inked 1700 21 (is_drawn (slip_text basis) 0 200 0)

-- all rows of a slip sheet
pub slip_rows : (basis : Basis) (label designation : List ℕ)
    → ((white_rows 1700 1000 ++ slip_text_rows basis) ++ white_rows 1700 1179) ++ band_rows 1700 label designation
    ≡ (slip_of basis label designation).rows
slip_rows basis label designation =
    let text = is_drawn (slip_text basis) 1000 200 0 in
    sym (banded_rows (inked (paper 1700 2200) text) label designation (inked_is_grid (paper 1700 2200) text)
    ∙ ap (λ rows. rows ++ band_rows 1700 label designation)
    (white_inked 1700 2200 text ∙ text_among 1700 1000 1179 200 (slip_text basis)))

-- white rows of the height of a text are a page
pub text_page : IsPage (paper 1700 21)
text_page = record {
  sides = refl;
  xres = record { num = omega arith; den = omega arith };
  yres = record { num = omega arith; den = omega arith };
  grid = white_is_grid 1700 21;
}
