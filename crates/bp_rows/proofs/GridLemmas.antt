-- Rows of pixels as a function of the row and the column.
use Rattle.std.proofs.Common.{ℕ, ◌≡◌, ◌<◌, Bool, false, cond, eqb, ◌&&◌, List, [], length, get_or, map, replicate, sym, ap, subst, ◌∙◌, zero-add, ⊎_elim}
use Rattle.std.specs.Prelude.{slice_set}
use Rattle.std.specs.List.{range_with_len}
use Rattle.std.proofs.lemmas.Bool.{cases_eq, eq-eqb, ne_eqb, and_left, and_right, and_from, cond-true, cond-false}
use Rattle.std.proofs.lemmas.List.{ext_get_or, length-set, get_or-set_same, get_or-set_other, length-replicate, get_or-replicate}
use Rattle.std.proofs.lemmas.List.FromFn.{length-map-range_with_len, get_or-map-range_with_len}
use Rattle.bp_rows.specs.Image.{IsGrid, grid_of}

-- the pixel in a row and a column
abbrev pub cell : List (List Bool) → ℕ → ℕ → Bool
cell rows r c = get_or (get_or rows r []) c false

row_of : (w h : ℕ) (f : ℕ → ℕ → Bool) (r : ℕ) → r < h → get_or (grid_of w h f) r [] ≡ map (f r) (range_with_len 0 w)
row_of w h f r down = get_or-map-range_with_len (λ k. map (f k) (range_with_len 0 w)) 0 h r r [] down (zero-add r)

pub cell-grid_of : (w h : ℕ) (f : ℕ → ℕ → Bool) (r c : ℕ) → r < h → c < w → cell (grid_of w h f) r c ≡ f r c
cell-grid_of w h f r c down across =
    ap (λ row. get_or row c false) (row_of w h f r down) ∙ get_or-map-range_with_len (f r) 0 w c c false across (zero-add c)

pub grid_of_is_grid : (w h : ℕ) (f : ℕ → ℕ → Bool) → IsGrid w h (grid_of w h f)
grid_of_is_grid w h f = record {
  down = length-map-range_with_len (λ k. map (f k) (range_with_len 0 w)) 0 h;
  across = λ r below. ap length (row_of w h f r below) ∙ length-map-range_with_len (f r) 0 w;
}

-- two grids with the same pixels are equal
pub same_grids : (w h : ℕ) (a b : List (List Bool)) → IsGrid w h a → IsGrid w h b → ((r c : ℕ) → r < h → c < w → cell a r c ≡ cell b r c) → a ≡ b
same_grids w h a b left right same =
    ext_get_or [] a b (left.down ∙ sym right.down)
    (λ r below.
    let down : r < h = subst (λ (n : ℕ). r < n) left.down below in
    ext_get_or false (get_or a r []) (get_or b r []) (left.across r down ∙ sym (right.across r down))
    (λ c short.
    let across : c < w = subst (λ (n : ℕ). c < n) (left.across r down) short in
    same r c down across))

-- a grid is the one that its pixels make
pub grid_by_cells : (w h : ℕ) (rows : List (List Bool)) (f : ℕ → ℕ → Bool) → IsGrid w h rows → ((r c : ℕ) → r < h → c < w → cell rows r c ≡ f r c) → rows ≡ grid_of w h f
grid_by_cells w h rows f grid cells =
    same_grids w h rows (grid_of w h f) grid (grid_of_is_grid w h f)
    (λ r c down across. cells r c down across ∙ sym (cell-grid_of w h f r c down across))

-- the rows with one pixel set
abbrev pub with_cell : List (List Bool) → ℕ → ℕ → Bool → List (List Bool)
with_cell rows row col black = slice_set rows row (slice_set (get_or rows row []) col black)

pub with_cell_is_grid : (w h : ℕ) (rows : List (List Bool)) (row col : ℕ) (black : Bool) → row < h → IsGrid w h rows → IsGrid w h (with_cell rows row col black)
with_cell_is_grid w h rows row col black within grid = record {
  down = length-set rows row (slice_set (get_or rows row []) col black) ∙ grid.down;
  across = λ r below. ⊎_elim
      (λ (same : r ≡ row).
      ap length (ap (λ n. get_or (with_cell rows row col black) n []) same
      ∙ get_or-set_same rows row (slice_set (get_or rows row []) col black) [] (subst (λ (n : ℕ). row < n) (sym grid.down) within))
      ∙ length-set (get_or rows row []) col black ∙ grid.across row within)
      (λ apart. ap length (get_or-set_other rows row r (slice_set (get_or rows row []) col black) [] apart) ∙ grid.across r below)
      (cases_eq r row);
}

pub cell-with_cell : (w h : ℕ) (rows : List (List Bool)) (row col : ℕ) (black : Bool) → IsGrid w h rows → row < h → col < w → (r c : ℕ) → cell (with_cell rows row col black) r c ≡ cond (eqb r row && eqb c col) black (cell rows r c)
cell-with_cell w h rows row col black grid within short r c =
    let there : row < length rows = subst (λ (n : ℕ). row < n) (sym grid.down) within in
    let wide : col < length (get_or rows row []) = subst (λ (n : ℕ). col < n) (sym (grid.across row within)) short in
    ⊎_elim
    (λ (same : r ≡ row).
    let here : get_or (with_cell rows row col black) r [] ≡ slice_set (get_or rows row []) col black =
    ap (λ n. get_or (with_cell rows row col black) n []) same ∙ get_or-set_same rows row (slice_set (get_or rows row []) col black) [] there in
    ⊎_elim
    (λ (equal : c ≡ col).
    ap (λ line. get_or line c false) here ∙ ap (λ n. get_or (slice_set (get_or rows row []) col black) n false) equal
    ∙ get_or-set_same (get_or rows row []) col black false wide
    ∙ sym (cond-true (eqb r row && eqb c col) black (cell rows r c) (and_from (eqb r row) (eqb c col) (eq-eqb r row same) (eq-eqb c col equal))))
    (λ beside.
    ap (λ line. get_or line c false) here ∙ get_or-set_other (get_or rows row []) col c black false beside
    ∙ ap (λ n. cell rows n c) (sym same)
    ∙ sym (cond-false (eqb r row && eqb c col) black (cell rows r c) (and_right (eqb r row) (eqb c col) (ne_eqb c col beside))))
    (cases_eq c col))
    (λ apart.
    ap (λ line. get_or line c false) (get_or-set_other rows row r (slice_set (get_or rows row []) col black) [] apart)
    ∙ sym (cond-false (eqb r row && eqb c col) black (cell rows r c) (and_left (eqb r row) (eqb c col) (ne_eqb r row apart))))
    (cases_eq r row)

-- white rows
pub white_is_grid : (w h : ℕ) → IsGrid w h (replicate h (replicate w false))
white_is_grid w h = record {
  down = length-replicate h (replicate w false);
  across = λ r below. ap length (get_or-replicate h r (replicate w false) [] below) ∙ length-replicate w false;
}

pub cell-white : (w h r c : ℕ) → r < h → c < w → cell (replicate h (replicate w false)) r c ≡ false
cell-white w h r c down across =
    ap (λ line. get_or line c false) (get_or-replicate h r (replicate w false) [] down) ∙ get_or-replicate w c false false across
