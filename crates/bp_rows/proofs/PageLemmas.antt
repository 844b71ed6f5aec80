-- What the packed bytes of a page say of its image.
use Rattle.std.proofs.Common.{mul-le-mul, ℕ, ◌≡◌, ◌+◌, ◌-◌, ◌*◌, ◌/◌, ◌%◌, ◌<◌, ◌≤◌, Bool, true, false, cond, eqb, nat_le, nat_lt, ◌&&◌, ◌||◌, List, [], ◌∷◌, length, get_or, replicate, refl, sym, ap, ◌∙◌, arith, ⊎_elim, inl, inr, ◌⊎◌, IsTrue}
use Rattle.std.proofs.lemmas.Bool.{cases_eq, cases_lt, eq-eqb, ne_eqb, and_from, and_left, and_right, cond-false, lt-leb, le-ltb, leb-true, le-leb, and_parts}
use Rattle.std.proofs.lemmas.Bool.Decides.{nat_tests}
use Rattle.std.specs.Int.{bit_at}
use Rattle.std.proofs.lemmas.Nat.Bits.{bit_at-zero}
use Rattle.std.proofs.lemmas.List.{length-replicate, get_or-replicate, get_or_past}
use Rattle.bp_core.specs.Rectangle.{has_pixel}
use Rattle.bp_rows.specs.declared.resolution.Res.{Res}
use Rattle.bp_rows.specs.declared.resolution.Unit.{Unit as LengthUnit}
use Rattle.bp_rows.specs.Image.{Image, IsPage, IsGrid, FitsRes, pixel, with_pixel, white_image, grid_of}
use Rattle.bp_rows.specs.Limits.{sides_are_allowed, sides_are_imported}
use Rattle.bp_rows.specs.Bits.{row_bytes, black_at, place, rows_in_bytes, Blackens, AreBytes, IsKept, image_in}
use Rattle.bp_rows.specs.Burned.{burned, covers_pixel, row_part}
use Rattle.bp_rows.specs.Packed.{packed_rows}
use Rattle.bp_rows.proofs.GridLemmas.{cell-grid_of, grid_of_is_grid, same_grids, grid_by_cells, with_cell, with_cell_is_grid, cell-with_cell, white_is_grid, cell-white}
use Rattle.bp_rows.proofs.PackedLemmas.{place_one, row_covers, packed_rows-rows_in, rows_in-packed_rows, rows_apart}
use Rattle.bp_rows.proofs.ByteLemmas.{between}

not_both_parts : (w row col r c : ℕ) → (place w r c ≡ place w row col → ⊥) → (r ≡ row) ⊎ (r ≡ row → ⊥) → (eqb r row && eqb c col) ≡ false
not_both_parts w row col r c apart (inl same) =
    and_right (eqb r row) (eqb c col) (ne_eqb c col (λ equal. apart (ap (λ n. place w n c) same ∙ ap (place w row) equal)))
not_both_parts w row col r c apart (inr differs) = and_left (eqb r row) (eqb c col) (ne_eqb r row differs)

alone : (b : Bool) → b ≡ (b || false)
alone true = refl
alone false = refl

abbrev zeros : ℕ → List ℕ
zeros n = replicate n 0

zero_at : (n i : ℕ) → let none : ℕ = 0 in get_or (zeros n) i 0 ≡ none
zero_at n i =
    let long : length (zeros n) ≡ n = length-replicate n 0 in
    ⊎_elim (λ within. get_or-replicate n i 0 0 within) (λ past. get_or_past (zeros n) i 0 (omega arith)) (cases_lt i n)

-- the longest strip: 20,032 rows of 2,500 bytes
strip_bound : (w h : ℕ) → w ≤ 20000 → h ≤ 20032 → h * row_bytes w ≤ 50080000
strip_bound w h wide high =
    let row : row_bytes w ≤ 2500 = omega arith in
    let product : h * row_bytes w ≤ 20032 * 2500 = mul-le-mul high row in omega arith

five : (a b c d e : Bool) → (a && b && c && d && e) ≡ true → (a ≡ true) × (b ≡ true) × (c ≡ true) × (d ≡ true) × (e ≡ true)
five a b c d e all =
    let four = and_parts (a && b && c && d) e all in
    let three = and_parts (a && b && c) d four.0 in
    let two = and_parts (a && b) c three.0 in
    let one = and_parts a b two.0 in
    (one.0, one.1, two.1, three.1, four.1)

-- the sides of a page
pub sides_bound : (w h : ℕ) → IsTrue (sides_are_allowed w h) → (w ≤ 20000) × (h ≤ 20032)
sides_bound w h allowed =
    let parts = five (nat_lt 0 w) (nat_le w 20000) (nat_lt 0 h) (nat_le h 20032) (nat_le (w * h) 200640000) allowed in
    (leb-true w 20000 parts.1, leb-true h 20032 parts.3)

pub strip_small : (w h : ℕ) → IsTrue (sides_are_allowed w h) → h * row_bytes w ≤ 50080000
strip_small w h allowed = let sides = sides_bound w h allowed in strip_bound w h sides.0 sides.1

-- what may come in may be a page
pub imported_is_allowed : (w h : ℕ) → IsTrue (sides_are_imported w h) → IsTrue (sides_are_allowed w h)
imported_is_allowed w h imported =
    let parts = five (nat_lt 0 w) (nat_le w 20000) (nat_lt 0 h) (nat_le h 20000) (nat_le (w * h) 200000000) imported in
    let high = leb-true h 20000 parts.3 in
    let many = leb-true (w * h) 200000000 parts.4 in
    and_from (nat_lt 0 w && nat_le w 20000 && nat_lt 0 h && nat_le h 20032) (nat_le (w * h) 200640000)
    (and_from (nat_lt 0 w && nat_le w 20000 && nat_lt 0 h) (nat_le h 20032)
    (and_from (nat_lt 0 w && nat_le w 20000) (nat_lt 0 h) (and_from (nat_lt 0 w) (nat_le w 20000) parts.0 parts.1) parts.2)
    (le-leb h 20032 (omega arith)))
    (le-leb (w * h) 200640000 (omega arith))

module _ (w h : ℕ) (x y : Res) (u : LengthUnit) where
  pub is_page : (bytes : List ℕ) → IsKept w h x y bytes → IsPage (image_in w h x y u bytes)
  is_page bytes kept = record {
    sides = kept.sides;
    xres = kept.xres;
    yres = kept.yres;
    grid = grid_of_is_grid w h (λ r c. black_at bytes (place w r c));
  }

  pub pixel-image_in : (bytes : List ℕ) (r c : ℕ) → r < h → c < w → pixel (image_in w h x y u bytes) r c ≡ black_at bytes (place w r c)
  pixel-image_in bytes r c down across = cell-grid_of w h (λ i j. black_at bytes (place w i j)) r c down across

  pub strip-image_in : (bytes : List ℕ) → IsKept w h x y bytes → packed_rows (rows_in_bytes w h bytes) ≡ bytes
  strip-image_in bytes kept = packed_rows-rows_in w h bytes kept.long kept.bytes_fit.below kept.ends

  -- ---- one pixel written

  abbrev pub Sets : ℕ → ℕ → Bool → List ℕ → List ℕ → Type 0
  Sets row col black old new = (k : ℕ) → black_at new k ≡ cond (eqb k (place w row col)) black (black_at old k)

  same_place : (row col r c : ℕ) → col < 8 * row_bytes w → c < 8 * row_bytes w → eqb (place w r c) (place w row col) ≡ (eqb r row && eqb c col)
  same_place row col r c short across =
      ⊎_elim
      (λ (same : place w r c ≡ place w row col).
      let one = place_one w r c row col across short same in
      eq-eqb (place w r c) (place w row col) same ∙ sym (and_from (eqb r row) (eqb c col) (eq-eqb r row one.0) (eq-eqb c col one.1)))
      (λ apart. ne_eqb (place w r c) (place w row col) apart ∙ sym (not_both_parts w row col r c apart (cases_eq r row)))
      (cases_eq (place w r c) (place w row col))

  pub image_in-set : (old new : List ℕ) (row col : ℕ) (black : Bool) → row < h → col < w → Sets row col black old new → image_in w h x y u new ≡ with_pixel (image_in w h x y u old) row col black
  image_in-set old new row col black down across sets =
      let covered : w ≤ 8 * row_bytes w = row_covers w in
      let rows : rows_in_bytes w h new ≡ with_cell (rows_in_bytes w h old) row col black =
      same_grids w h (rows_in_bytes w h new) (with_cell (rows_in_bytes w h old) row col black)
      (grid_of_is_grid w h (λ r c. black_at new (place w r c)))
      (with_cell_is_grid w h (rows_in_bytes w h old) row col black down (grid_of_is_grid w h (λ r c. black_at old (place w r c))))
      (λ r c below short.
      cell-grid_of w h (λ i j. black_at new (place w i j)) r c below short
      ∙ sets (place w r c)
      ∙ ap (λ b. cond b black (black_at old (place w r c))) (same_place row col r c (omega arith) (omega arith))
      ∙ ap (λ b. cond (eqb r row && eqb c col) black b) (sym (cell-grid_of w h (λ i j. black_at old (place w i j)) r c below short))
      ∙ sym (cell-with_cell w h (rows_in_bytes w h old) row col black (grid_of_is_grid w h (λ i j. black_at old (place w i j))) down across r c)) in
      let P : List (List Bool) → Image = λ rs. record { width = w; height = h; xres = x; yres = y; unit = u; rows = rs } in
      ap P rows

  pub kept_set : (old new : List ℕ) (row col : ℕ) (black : Bool) → col < w → IsKept w h x y old → length new ≡ length old → AreBytes new → Sets row col black old new → IsKept w h x y new
  kept_set old new row col black across kept long fit sets = record {
    sides = kept.sides;
    xres = kept.xres;
    yres = kept.yres;
    long = long ∙ kept.long;
    bytes_fit = fit;
    ends = record {
      blank = λ r c below past short.
          let covered : w ≤ 8 * row_bytes w = row_covers w in
          sets (place w r c)
          ∙ cond-false _ black (black_at old (place w r c))
          (same_place row col r c (omega arith) short ∙ and_right (eqb r row) (eqb c col) (ne_eqb c col (λ e. omega arith)))
          ∙ kept.ends.blank r c below past short;
    };
  }

  -- ---- a part of a row blackened

  abbrev pub Fills : ℕ → ℕ → ℕ → List ℕ → List ℕ → Type 0
  Fills row from to old new = Blackens (place w row 0 + from) (place w row 0 + to) old new

  -- the places of a part of a row
  part_places : (row from to r c : ℕ) → from ≤ to → to ≤ w → c < 8 * row_bytes w → between (place w row 0 + from) (place w row 0 + to) (place w r c) ≡ has_pixel (row_part row from to) r c
  part_places row from to r c order end across =
      let covered : w ≤ 8 * row_bytes w = row_covers w in
      ⊎_elim
      (λ (above : r < row).
      let apart : r * row_bytes w + row_bytes w ≤ row * row_bytes w = rows_apart r row (row_bytes w) above in
      ap (λ b. b && nat_lt (place w r c) (place w row 0 + to)) (lt-leb (place w row 0 + from) (place w r c) (omega arith))
      ∙ sym (ap (λ b. b && nat_lt r (row + 1) && nat_le from c && nat_lt c (from + (to - from))) (lt-leb row r above)))
      (λ not_above. ⊎_elim
      (λ (under : row < r).
      let apart : row * row_bytes w + row_bytes w ≤ r * row_bytes w = rows_apart row r (row_bytes w) under in
      and_right (nat_le (place w row 0 + from) (place w r c)) _ (le-ltb (place w r c) (place w row 0 + to) (omega arith))
      ∙ sym (ap (λ b. b && nat_le from c && nat_lt c (from + (to - from))) (and_right (nat_le row r) _ (le-ltb r (row + 1) (omega arith)))))
      (λ (not_under : r ≤ row).
      let one : r ≡ row = omega arith in
      let starts : r * row_bytes w ≡ row * row_bytes w = ap (λ n. n * row_bytes w) one in
      grind (arith, nat_tests))
      (cases_lt row r))
      (cases_lt r row)

  pub image_in-blackened : (old new : List ℕ) (row from to : ℕ) → from ≤ to → to ≤ w → Fills row from to old new → image_in w h x y u new ≡ burned (image_in w h x y u old) (row_part row from to ∷ [])
  image_in-blackened old new row from to order end fills =
      let covered : w ≤ 8 * row_bytes w = row_covers w in
      let rows : rows_in_bytes w h new ≡ grid_of w h (λ r c. covers_pixel (row_part row from to ∷ []) r c || pixel (image_in w h x y u old) r c) =
      grid_by_cells w h (rows_in_bytes w h new) (λ r c. covers_pixel (row_part row from to ∷ []) r c || pixel (image_in w h x y u old) r c)
      (grid_of_is_grid w h (λ r c. black_at new (place w r c)))
      (λ r c below short.
      cell-grid_of w h (λ i j. black_at new (place w i j)) r c below short
      ∙ fills (place w r c)
      ∙ ap (λ b. b || black_at old (place w r c)) (part_places row from to r c order end (omega arith) ∙ alone (has_pixel (row_part row from to) r c))
      ∙ ap (λ b. covers_pixel (row_part row from to ∷ []) r c || b) (sym (pixel-image_in old r c below short))) in
      let P : List (List Bool) → Image = λ rs. record { width = w; height = h; xres = x; yres = y; unit = u; rows = rs } in
      ap P rows

  pub kept_blackened : (old new : List ℕ) (row from to : ℕ) → from ≤ to → to ≤ w → IsKept w h x y old → length new ≡ length old → AreBytes new → Fills row from to old new → IsKept w h x y new
  kept_blackened old new row from to order end kept long fit fills = record {
    sides = kept.sides;
    xres = kept.xres;
    yres = kept.yres;
    long = long ∙ kept.long;
    bytes_fit = fit;
    ends = record {
      blank = λ r c below past short.
          fills (place w r c)
          ∙ ap (λ b. b || black_at old (place w r c))
          (part_places row from to r c order end short ∙ and_right _ (nat_lt c (from + (to - from))) (le-ltb c (from + (to - from)) (omega arith)))
          ∙ kept.ends.blank r c below past short;
    };
  }

  -- ---- white bytes, and bytes given

  black_at-zeros : (n k : ℕ) → black_at (replicate n 0) k ≡ false
  black_at-zeros n k = ap (λ b. eqb (bit_at b (7 - k % 8)) 1) (zero_at n (k / 8)) ∙ ap (λ b. eqb b 1) (bit_at-zero (7 - k % 8))

  pub image_in-zeros : (bytes : List ℕ) → bytes ≡ replicate (h * row_bytes w) 0 → image_in w h x y u bytes ≡ white_image w h x y u
  image_in-zeros bytes zeros =
      let P : List (List Bool) → Image = λ rs. record { width = w; height = h; xres = x; yres = y; unit = u; rows = rs } in
      ap (image_in w h x y u) zeros
      ∙ ap P
      (same_grids w h (rows_in_bytes w h (replicate (h * row_bytes w) 0)) (replicate h (replicate w false))
      (grid_of_is_grid w h (λ r c. black_at (replicate (h * row_bytes w) 0) (place w r c))) (white_is_grid w h)
      (λ r c down across.
      cell-grid_of w h (λ i j. black_at (replicate (h * row_bytes w) 0) (place w i j)) r c down across
      ∙ black_at-zeros (h * row_bytes w) (place w r c) ∙ sym (cell-white w h r c down across)))

  pub kept_zeros : (bytes : List ℕ) → bytes ≡ replicate (h * row_bytes w) 0 → IsTrue (sides_are_allowed w h) → FitsRes x → FitsRes y → IsKept w h x y bytes
  kept_zeros bytes zeros allowed fits_x fits_y = record {
    sides = allowed;
    xres = fits_x;
    yres = fits_y;
    long = ap length zeros ∙ length-replicate (h * row_bytes w) 0;
    bytes_fit = record { below = λ i. let none = ap (λ bs. get_or bs i 0) zeros ∙ zero_at (h * row_bytes w) i in omega arith };
    ends = record {
      blank = λ r c down past across. ap (λ bs. black_at bs (place w r c)) zeros ∙ black_at-zeros (h * row_bytes w) (place w r c);
    };
  }

  -- rows that are packed in the bytes are those that the page has
  pub rows_of_strip : (bytes : List ℕ) (rows : List (List Bool)) → IsGrid w h rows → packed_rows rows ≡ bytes → rows_in_bytes w h bytes ≡ rows
  rows_of_strip bytes rows grid same = ap (rows_in_bytes w h) (sym same) ∙ sym (rows_in-packed_rows w h rows grid)
