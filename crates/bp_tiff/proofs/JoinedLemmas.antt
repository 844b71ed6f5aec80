-- Packed rows put one behind another: carries their bytes over to the values that they hold.
use Rattle.std.proofs.Common.{ℕ, ◌≡◌, ◌+◌, ◌-◌, ◌*◌, ◌/◌, ◌%◌, ◌<◌, ◌≤◌, Bool, true, false, not, List, [], ◌++◌, length, get_or, take, map, refl, sym, ap, subst, ◌∙◌, arith, ⊎_elim, eqb}
use Rattle.std.specs.Int.{bit_at}
use Rattle.std.proofs.lemmas.Bool.{cases_lt}
use Rattle.std.proofs.lemmas.List.{length-append, get_or-take, get_or_append_left, get_or-append_right, map-append}
use Rattle.bp_codes.specs.declared.span.Fill.{Fill}
use Rattle.bp_codes.specs.declared.span.Fill.TheVariants.{High, Low}
use Rattle.bp_rows.specs.Image.{IsGrid}
use Rattle.bp_rows.specs.Bits.{row_bytes, place}
use Rattle.bp_rows.specs.Packed.{packed_rows}
use Rattle.bp_rows.proofs.GridLemmas.{cell, cell-grid_of, grid_of_is_grid, same_grids}
use Rattle.bp_rows.proofs.PackedLemmas.{rows_in-packed_rows, rows_apart}
use Rattle.bp_tiff.specs.Pixels.{bit_in, packed_values, value_inked}

-- the value at a place tells of one byte alone
pub value_alike : (f : Fill) (xs ys : List ℕ) (at to : ℕ) → get_or xs (at / 8) 0 ≡ get_or ys (to / 8) 0 → at % 8 ≡ to % 8 → bit_in f xs at ≡ bit_in f ys to
value_alike High xs ys at to same rest = ap (λ b. eqb (bit_at b (7 - at % 8)) 1) same ∙ ap (λ k. eqb (bit_at (get_or ys (to / 8) 0) (7 - k)) 1) rest
value_alike Low xs ys at to same rest = ap (λ b. eqb (bit_at b (at % 8)) 1) same ∙ ap (λ k. eqb (bit_at (get_or ys (to / 8) 0) k) 1) rest

byte_of : (w r c : ℕ) → place w r c / 8 ≡ r * row_bytes w + c / 8
byte_of w r c = omega arith

in_rows : (w n r c : ℕ) → r < n → c < w → r * row_bytes w + c / 8 < n * row_bytes w
in_rows w n r c down across = let apart : r * row_bytes w + row_bytes w ≤ n * row_bytes w = rows_apart r n (row_bytes w) down in omega arith

-- two lots of bytes whose rows hold the same
pub values_alike : (f : Fill) (w n : ℕ) (xs ys : List ℕ) → ((i : ℕ) → i < n * row_bytes w → get_or xs i 0 ≡ get_or ys i 0) → packed_values f w n xs ≡ packed_values f w n ys
values_alike f w n xs ys same =
    same_grids w n (packed_values f w n xs) (packed_values f w n ys) (grid_of_is_grid w n _) (grid_of_is_grid w n _)
    (λ r c down across.
    let here = in_rows w n r c down across in
    cell-grid_of w n (λ r c. bit_in f xs (place w r c)) r c down across
    ∙ value_alike f xs ys (place w r c) (place w r c) (same (place w r c / 8) (omega (arith, byte_of w r c))) refl
    ∙ sym (cell-grid_of w n (λ r c. bit_in f ys (place w r c)) r c down across))

pub values_of_front : (f : Fill) (w n : ℕ) (bytes : List ℕ) → packed_values f w n (take (n * row_bytes w) bytes) ≡ packed_values f w n bytes
values_of_front f w n bytes = values_alike f w n (take (n * row_bytes w) bytes) bytes (λ i h. get_or-take (n * row_bytes w) bytes i 0 h)

-- rows of one grid under those of another
cell_left : (xs ys : List (List Bool)) (r c : ℕ) → r < length xs → cell (xs ++ ys) r c ≡ cell xs r c
cell_left xs ys r c h = ap (λ row. get_or row c false) (get_or_append_left xs ys [] r h)

cell_right : (xs ys : List (List Bool)) (n r c : ℕ) → length xs ≡ n → n ≤ r → cell (xs ++ ys) r c ≡ cell ys (r - n) c
cell_right xs ys n r c long h = ap (λ row. get_or row c false) (get_or-append_right xs ys n r [] long h)

grids_joined : (w m n : ℕ) (xs ys : List (List Bool)) → IsGrid w m xs → IsGrid w n ys → IsGrid w (m + n) (xs ++ ys)
grids_joined w m n xs ys a b = record {
  down = omega (arith, length-append xs ys, a.down, b.down);
  across = λ r h. ⊎_elim
      (λ (low : r < m). ap length (get_or_append_left xs ys [] r (subst (λ (k : ℕ). r < k) (sym a.down) low)) ∙ a.across r low)
      (λ high. ap length (get_or-append_right xs ys m r [] a.down high) ∙ b.across (r - m) (omega arith))
      (cases_lt r m);
}

distributed : (a b s : ℕ) → (a + b) * s ≡ a * s + b * s
distributed a b s = omega arith

rows_split : (r m s : ℕ) → m ≤ r → r * s ≡ m * s + (r - m) * s
rows_split r m s h = let e : r ≡ m + (r - m) = omega arith in ap (λ q. q * s) e ∙ distributed m (r - m) s

pub values_joined : (f : Fill) (w m n : ℕ) (xs ys : List ℕ) → length xs ≡ m * row_bytes w → packed_values f w (m + n) (xs ++ ys) ≡ packed_values f w m xs ++ packed_values f w n ys
values_joined f w m n xs ys long =
    let a = packed_values f w m xs in let b = packed_values f w n ys in
    let left = grid_of_is_grid w m (λ r c. bit_in f xs (place w r c)) in
    let right = grid_of_is_grid w n (λ r c. bit_in f ys (place w r c)) in
    same_grids w (m + n) (packed_values f w (m + n) (xs ++ ys)) (a ++ b) (grid_of_is_grid w (m + n) _) (grids_joined w m n a b left right)
    (λ r c down across.
    cell-grid_of w (m + n) (λ r c. bit_in f (xs ++ ys) (place w r c)) r c down across
    ∙ ⊎_elim
    (λ (low : r < m).
    let here = in_rows w m r c low across in
    value_alike f (xs ++ ys) xs (place w r c) (place w r c) (get_or_append_left xs ys 0 (place w r c / 8) (omega (arith, byte_of w r c))) refl
    ∙ sym (cell-grid_of w m (λ r c. bit_in f xs (place w r c)) r c low across)
    ∙ sym (cell_left a b r c (subst (λ (k : ℕ). r < k) (sym left.down) low)))
    (λ high.
    let s = row_bytes w in
    let split : r * s ≡ m * s + (r - m) * s = rows_split r m s high in
    let byte : place w r c / 8 - m * s ≡ place w (r - m) c / 8 = omega (arith, byte_of w r c, byte_of w (r - m) c) in
    value_alike f (xs ++ ys) ys (place w r c) (place w (r - m) c)
    (get_or-append_right xs ys (m * s) (place w r c / 8) 0 long (omega (arith, byte_of w r c)) ∙ ap (λ i. get_or ys i 0) byte)
    (omega arith)
    ∙ sym (cell-grid_of w n (λ r c. bit_in f ys (place w r c)) (r - m) c (omega arith) across)
    ∙ sym (cell_right a b m r c left.down high))
    (cases_lt r m))

pub inked_joined : (z : Bool) (xs ys : List (List Bool)) → value_inked z (xs ++ ys) ≡ value_inked z xs ++ value_inked z ys
inked_joined true xs ys = map-append (map not) xs ys
inked_joined false xs ys = refl

pub values_packed : (w n : ℕ) (rows : List (List Bool)) → IsGrid w n rows → packed_values High w n (packed_rows rows) ≡ rows
values_packed w n rows grid = sym (rows_in-packed_rows w n rows grid)
