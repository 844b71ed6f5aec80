-- Packed bytes and the rows that they hold.
use Rattle.std.proofs.Common.{ℕ, ◌≡◌, ◌≢◌, ◌+◌, ◌-◌, ◌*◌, ◌/◌, ◌%◌, ◌^◌, ◌<◌, ◌≤◌, zero, suc, Bool, true, false, cond, eqb, List, [], ◌∷◌, ◌++◌, length, get_or, take, drop, map, refl, sym, ap, subst, ◌∙◌, arith, zero-add, add-zero, ⊎_elim, bit_and, min}
use Rattle.std.specs.Int.{bit_at}
use Rattle.std.specs.List.{range_with_len, flat_map}
use Rattle.std.proofs.lemmas.Bool.{cases_lt}
use Rattle.std.proofs.lemmas.List.{ext_get_or, length-take-le, length-drop, length-append, take-append-drop, get_or-take, get_or-drop, get_or_append_left, get_or-append_right, get_or_past, nil_from_length}
use Rattle.std.proofs.lemmas.List.FromFn.{length-map-range_with_len, get_or-map-range_with_len}
use Rattle.std.proofs.lemmas.Nat.Bits.{bit_at-lt, bit_at_and, bit_at_ones, bit_at_ones_above, bit_at-zero, same_from_bits}
use Rattle.std.proofs.lemmas.Nat.{pow_below}
use Rattle.std.proofs.Math.Nat.{mod-eq_of_lt}
use Rattle.bp_rows.specs.Image.{IsGrid}
use Rattle.bp_rows.specs.Bits.{row_bytes, black_at, place, rows_in_bytes, HasBlankEnds}
use Rattle.bp_rows.specs.Packed.{digit_at, packed_byte, packed_row, packed_rows}
use Rattle.bp_rows.proofs.GridLemmas.{cell, grid_by_cells}

-- ---- a byte and its eight bits

pub byte_by_bits : (b : ℕ) → b < 256 → 128 * bit_at b 7 + 64 * bit_at b 6 + 32 * bit_at b 5 + 16 * bit_at b 4 + 8 * bit_at b 3 + 4 * bit_at b 2 + 2 * bit_at b 1 + bit_at b 0 ≡ b
byte_by_bits b small = omega arith

-- eight digits and the bits of their number
abbrev number : (ℕ → ℕ) → ℕ
number d = 128 * d 0 + 64 * d 1 + 32 * d 2 + 16 * d 3 + 8 * d 4 + 4 * d 5 + 2 * d 6 + d 7

bits_of_sum : (d : ℕ → ℕ) → ((j : ℕ) → d j < 2) → (j : ℕ) → j < 8 → bit_at (number d) (7 - j) ≡ d j
bits_of_sum d low zero small = omega (arith, low 0, low 1, low 2, low 3, low 4, low 5, low 6, low 7)
bits_of_sum d low (suc zero) small = omega (arith, low 0, low 1, low 2, low 3, low 4, low 5, low 6, low 7)
bits_of_sum d low (suc (suc zero)) small = omega (arith, low 0, low 1, low 2, low 3, low 4, low 5, low 6, low 7)
bits_of_sum d low (suc (suc (suc zero))) small = omega (arith, low 0, low 1, low 2, low 3, low 4, low 5, low 6, low 7)
bits_of_sum d low (suc (suc (suc (suc zero)))) small = omega (arith, low 0, low 1, low 2, low 3, low 4, low 5, low 6, low 7)
bits_of_sum d low (suc (suc (suc (suc (suc zero))))) small = omega (arith, low 0, low 1, low 2, low 3, low 4, low 5, low 6, low 7)
bits_of_sum d low (suc (suc (suc (suc (suc (suc zero)))))) small = omega (arith, low 0, low 1, low 2, low 3, low 4, low 5, low 6, low 7)
bits_of_sum d low (suc (suc (suc (suc (suc (suc (suc zero))))))) small = omega (arith, low 0, low 1, low 2, low 3, low 4, low 5, low 6, low 7)
bits_of_sum d low (suc (suc (suc (suc (suc (suc (suc (suc n)))))))) small = absurd (omega arith)

digit_of_small : (b : Bool) → cond b 1 0 < 2
digit_of_small true = omega arith
digit_of_small false = omega arith

pixel_of_digit : (b : Bool) → eqb (cond b 1 0) 1 ≡ b
pixel_of_digit true = refl
pixel_of_digit false = refl

digit_small : (row : List Bool) (c : ℕ) → digit_at row c < 2
digit_small row c = digit_of_small (get_or row c false)

byte_of_digits : (row : List Bool) (col : ℕ) → packed_byte row col ≡ number (λ j. digit_at row (col + j))
byte_of_digits row col = simp add-zero

-- the bit of a packed byte is the pixel
bit_of_packed : (row : List Bool) (c : ℕ) → eqb (bit_at (packed_byte row (8 * (c / 8))) (7 - c % 8)) 1 ≡ get_or row c false
bit_of_packed row c =
    let whole : 8 * (c / 8) + c % 8 ≡ c = omega arith in
    ap (λ byte. eqb (bit_at byte (7 - c % 8)) 1) (byte_of_digits row (8 * (c / 8)))
    ∙ ap (λ bit. eqb bit 1) (bits_of_sum (λ j. digit_at row (8 * (c / 8) + j)) (λ j. digit_small row (8 * (c / 8) + j)) (c % 8) (omega arith))
    ∙ ap (λ n. eqb (digit_at row n) 1) whole
    ∙ pixel_of_digit (get_or row c false)

-- ---- places

-- rows end before the next begin
pub rows_apart : (r row s : ℕ) → r < row → r * s + s ≤ row * s
rows_apart r row s before = grind arith

pub row_covers : (w : ℕ) → w ≤ 8 * row_bytes w
row_covers w = omega arith

-- the byte and the bit of a place
place_byte : (w r c : ℕ) → place w r c / 8 ≡ r * row_bytes w + c / 8
place_byte w r c = omega arith

place_bit : (w r c : ℕ) → place w r c % 8 ≡ c % 8
place_bit w r c = omega arith

pub place_within : (w h r c : ℕ) → r < h → c < 8 * row_bytes w → place w r c < 8 * (h * row_bytes w)
place_within w h r c down across = let apart : r * row_bytes w + row_bytes w ≤ h * row_bytes w = rows_apart r h (row_bytes w) down in omega arith

-- two places are one only where row and column are
pub place_one : (w r c row col : ℕ) → c < 8 * row_bytes w → col < 8 * row_bytes w → place w r c ≡ place w row col → (r ≡ row) × (c ≡ col)
place_one w r c row col across short same =
    ⊎_elim
    (λ (before : r < row). let apart : r * row_bytes w + row_bytes w ≤ row * row_bytes w = rows_apart r row (row_bytes w) before in absurd (omega arith))
    (λ since. ⊎_elim
    (λ (after : row < r). let apart : row * row_bytes w + row_bytes w ≤ r * row_bytes w = rows_apart row r (row_bytes w) after in absurd (omega arith))
    (λ (not_after : r ≤ row).
    let one : r ≡ row = omega arith in
    let starts : r * row_bytes w ≡ row * row_bytes w = ap (λ n. n * row_bytes w) one in
    (one, omega arith))
    (cases_lt row r))
    (cases_lt r row)

-- ---- rows one after another

map_through : {A B : Type 0} (g : A → List B) (f : ℕ → A) (ks : List ℕ) → flat_map g (map f ks) ≡ flat_map (λ k. g (f k)) ks
map_through g f [] = refl
map_through g f (k ∷ ks) = ap (λ rest. g (f k) ++ rest) (map_through g f ks)

-- pieces of one length, joined
joined_pieces : (s : ℕ) (g : ℕ → List ℕ) (n a : ℕ) (bytes : List ℕ) → ((r : ℕ) → length (g r) ≡ s) → length bytes ≡ n * s → ((r i : ℕ) → r < n → i < s → get_or bytes (r * s + i) 0 ≡ get_or (g (a + r)) i 0) → flat_map g (range_with_len a n) ≡ bytes
joined_pieces s g zero a bytes long all same = sym (nil_from_length bytes (all ∙ omega arith))
joined_pieces s g (suc n) a bytes long all same =
    let total : length bytes ≡ s + n * s = all ∙ omega arith in
    let front : g a ≡ take s bytes =
    ext_get_or 0 (g a) (take s bytes) (long a ∙ sym (length-take-le s bytes (omega arith)))
    (λ i short.
    let low : i < s = omega (arith, long a) in
    sym (get_or-take s bytes i 0 low ∙ ap (λ m. get_or bytes m 0) (omega arith) ∙ same 0 i (omega arith) low ∙ ap (λ m. get_or (g m) i 0) (omega arith))) in
    let rest : flat_map g (range_with_len (a + 1) n) ≡ drop s bytes =
    joined_pieces s g n (a + 1) (drop s bytes) long (length-drop s bytes ∙ omega arith)
    (λ r i below low.
    get_or-drop s bytes (r * s + i) 0 ∙ ap (λ m. get_or bytes m 0) (omega arith) ∙ same (suc r) i (omega arith) low ∙ ap (λ m. get_or (g m) i 0) (omega arith)) in
    ap (λ xs. xs ++ flat_map g (range_with_len (a + 1) n)) front ∙ ap (λ ys. take s bytes ++ ys) rest ∙ take-append-drop s bytes

-- the length of lists of one length, joined, and what stands in them
pub length_joined : {A : Type 0} (g : A → List ℕ) (d : A) (s : ℕ) (xs : List A) → ((k : ℕ) → k < length xs → length (g (get_or xs k d)) ≡ s) → length (flat_map g xs) ≡ length xs * s
length_joined g d s [] long = omega arith
length_joined g d s (x ∷ xs) long =
    length-append (g x) (flat_map g xs) ∙ omega (arith, long 0 (omega arith), length_joined g d s xs (λ k below. long (suc k) (omega arith)))

get_or_joined : {A : Type 0} (g : A → List ℕ) (d : A) (s : ℕ) (xs : List A) → ((k : ℕ) → k < length xs → length (g (get_or xs k d)) ≡ s) → (r i : ℕ) → r < length xs → i < s → get_or (flat_map g xs) (r * s + i) 0 ≡ get_or (g (get_or xs r d)) i 0
get_or_joined g d s [] long r i below low = absurd (omega arith)
get_or_joined g d s (x ∷ xs) long zero i below low =
    ap (λ m. get_or (g x ++ flat_map g xs) m 0) (omega arith) ∙ get_or_append_left (g x) (flat_map g xs) 0 i (omega (arith, long 0 (omega arith)))
get_or_joined g d s (x ∷ xs) long (suc r) i below low =
    get_or-append_right (g x) (flat_map g xs) s (suc r * s + i) 0 (long 0 (omega arith)) (omega arith)
    ∙ ap (λ m. get_or (flat_map g xs) m 0) (omega arith)
    ∙ get_or_joined g d s xs (λ k short. long (suc k) (omega arith)) r i (omega arith) low

-- ---- rows packed, and read from their bytes

pub length-packed_row : (row : List Bool) → length (packed_row row) ≡ row_bytes (length row)
length-packed_row row = length-map-range_with_len (λ i. packed_byte row (8 * i)) 0 (row_bytes (length row))

rows_long : (w h : ℕ) (rows : List (List Bool)) → IsGrid w h rows → (k : ℕ) → k < length rows → length (packed_row (get_or rows k [])) ≡ row_bytes w
rows_long w h rows grid k below =
    length-packed_row (get_or rows k []) ∙ ap row_bytes (grid.across k (subst (λ (n : ℕ). k < n) grid.down below))

pub length-packed_rows : (w h : ℕ) (rows : List (List Bool)) → IsGrid w h rows → length (packed_rows rows) ≡ h * row_bytes w
length-packed_rows w h rows grid =
    length_joined packed_row [] (row_bytes w) rows (rows_long w h rows grid) ∙ ap (λ n. n * row_bytes w) grid.down

-- each bit of packed rows is the pixel, or white past the row's end
pub black_at-packed_rows : (w h : ℕ) (rows : List (List Bool)) → IsGrid w h rows → (r c : ℕ) → r < h → c < 8 * row_bytes w → black_at (packed_rows rows) (place w r c) ≡ cell rows r c
black_at-packed_rows w h rows grid r c down across =
    let row = get_or rows r [] in
    let wide : c / 8 < row_bytes w = omega arith in
    let wide_row : c / 8 < row_bytes (length row) = subst (λ (n : ℕ). c / 8 < row_bytes n) (sym (grid.across r down)) wide in
    let there : r < length rows = subst (λ (n : ℕ). r < n) (sym grid.down) down in
    let byte : get_or (packed_rows rows) (place w r c / 8) 0 ≡ packed_byte row (8 * (c / 8)) =
    ap (λ m. get_or (packed_rows rows) m 0) (place_byte w r c)
    ∙ get_or_joined packed_row [] (row_bytes w) rows (rows_long w h rows grid) r (c / 8) there wide
    ∙ get_or-map-range_with_len (λ i. packed_byte row (8 * i)) 0 (row_bytes (length row)) (c / 8) (c / 8) 0 wide_row (zero-add (c / 8)) in
    ap (λ b. eqb (bit_at b (7 - place w r c % 8)) 1) byte
    ∙ ap (λ n. eqb (bit_at (packed_byte row (8 * (c / 8))) (7 - n)) 1) (place_bit w r c)
    ∙ bit_of_packed row c

-- packed rows hold the rows
pub rows_in-packed_rows : (w h : ℕ) (rows : List (List Bool)) → IsGrid w h rows → rows ≡ rows_in_bytes w h (packed_rows rows)
rows_in-packed_rows w h rows grid =
    grid_by_cells w h rows (λ r c. black_at (packed_rows rows) (place w r c)) grid
    (λ r c down across.
    let covered : w ≤ 8 * row_bytes w = row_covers w in
    sym (black_at-packed_rows w h rows grid r c down (omega arith)))

pub blank_ends-packed_rows : (w h : ℕ) (rows : List (List Bool)) → IsGrid w h rows → HasBlankEnds w h (packed_rows rows)
blank_ends-packed_rows w h rows grid = record {
  blank = λ r c down past across.
      black_at-packed_rows w h rows grid r c down across
      ∙ get_or_past (get_or rows r []) c false (omega (arith, grid.across r down));
}

number_alike : (d e : ℕ → ℕ) → ((j : ℕ) → j < 8 → d j ≡ e j) → number d ≡ number e
number_alike d e same =
    omega (arith, same 0 (omega arith), same 1 (omega arith), same 2 (omega arith), same 3 (omega arith), same 4 (omega arith), same 5 (omega arith), same 6 (omega arith), same 7 (omega arith))

digit_of_bit : (x : ℕ) → x < 2 → cond (eqb x 1) 1 0 ≡ x
digit_of_bit zero small = refl
digit_of_bit (suc zero) small = refl
digit_of_bit (suc (suc n)) small = absurd (omega arith)

-- the row r that the bytes hold
abbrev held_row : ℕ → List ℕ → ℕ → List Bool
held_row w bytes r = map (λ c. black_at bytes (place w r c)) (range_with_len 0 w)

held_pixel : (w h : ℕ) (bytes : List ℕ) → HasBlankEnds w h bytes → (r c : ℕ) → r < h → c < 8 * row_bytes w → get_or (held_row w bytes r) c false ≡ black_at bytes (place w r c)
held_pixel w h bytes ends r c down across =
    ⊎_elim
    (λ within. get_or-map-range_with_len (λ k. black_at bytes (place w r k)) 0 w c c false within (zero-add c))
    (λ past.
    get_or_past (held_row w bytes r) c false (omega (arith, length-map-range_with_len (λ k. black_at bytes (place w r k)) 0 w))
    ∙ sym (ends.blank r c down past across))
    (cases_lt c w)

held_byte : (w h : ℕ) (bytes : List ℕ) → HasBlankEnds w h bytes → ((i : ℕ) → get_or bytes i 0 < 256) → (r i : ℕ) → r < h → i < row_bytes w → packed_byte (held_row w bytes r) (8 * i) ≡ get_or bytes (r * row_bytes w + i) 0
held_byte w h bytes ends small r i down low =
    let byte = get_or bytes (r * row_bytes w + i) 0 in
    byte_of_digits (held_row w bytes r) (8 * i)
    ∙ number_alike (λ j. digit_at (held_row w bytes r) (8 * i + j)) (λ j. bit_at byte (7 - j))
    (λ j short.
    let across : 8 * i + j < 8 * row_bytes w = omega arith in
    ap (λ b. cond b 1 0) (held_pixel w h bytes ends r (8 * i + j) down across)
    ∙ digit_of_bit (bit_at (get_or bytes (place w r (8 * i + j) / 8) 0) (7 - place w r (8 * i + j) % 8)) (bit_at-lt _ _)
    ∙ ap (λ m. bit_at (get_or bytes m 0) (7 - place w r (8 * i + j) % 8)) (omega arith)
    ∙ ap (λ m. bit_at byte (7 - m)) (omega arith))
    ∙ byte_by_bits byte (small (r * row_bytes w + i))

-- bytes with blank ends are the packing of the rows that they hold
pub packed_rows-rows_in : (w h : ℕ) (bytes : List ℕ) → length bytes ≡ h * row_bytes w → ((i : ℕ) → get_or bytes i 0 < 256) → HasBlankEnds w h bytes → packed_rows (rows_in_bytes w h bytes) ≡ bytes
packed_rows-rows_in w h bytes long small ends =
    let width_of : (r : ℕ) → length (held_row w bytes r) ≡ w = λ r. length-map-range_with_len (λ c. black_at bytes (place w r c)) 0 w in
    map_through packed_row (held_row w bytes) (range_with_len 0 h)
    ∙ joined_pieces (row_bytes w) (λ r. packed_row (held_row w bytes r)) h 0 bytes
    (λ r. length-packed_row (held_row w bytes r) ∙ ap row_bytes (width_of r))
    long
    (λ r i down low.
    let wide : i < row_bytes (length (held_row w bytes r)) = subst (λ (n : ℕ). i < row_bytes n) (sym (width_of r)) low in
    sym (held_byte w h bytes ends small r i down low)
    ∙ sym (get_or-map-range_with_len (λ k. packed_byte (held_row w bytes r) (8 * k)) 0 (row_bytes (length (held_row w bytes r))) i i 0 wide (zero-add i))
    ∙ ap (λ k. get_or (packed_row (held_row w bytes k)) i 0) (sym (zero-add r)))

-- ---- the unused bits of a byte

-- the low bits of a byte are 0 exactly where a mask of them finds none
pub low_bits_clear : (n k : ℕ) → bit_and n (2 ^ k - 1) ≡ 0 → (i : ℕ) → i < k → bit_at n i ≡ 0
low_bits_clear n k none i low =
    let both : min (bit_at n i) 1 ≡ 0 =
    ap (min (bit_at n i)) (sym (bit_at_ones k i low)) ∙ sym (bit_at_and n (2 ^ k - 1) i) ∙ ap (λ m. bit_at m i) none ∙ bit_at-zero i in
    omega (arith, bit_at-lt n i)

pub clear_low_bits : (n k : ℕ) → ((i : ℕ) → i < k → bit_at n i ≡ 0) → bit_and n (2 ^ k - 1) ≡ 0
clear_low_bits n k clear =
    same_from_bits (bit_and n (2 ^ k - 1)) 0
    (λ i. bit_at_and n (2 ^ k - 1) i
    ∙ ⊎_elim
    (λ low. ap (λ b. min b (bit_at (2 ^ k - 1) i)) (clear i low) ∙ omega arith)
    (λ high. ap (min (bit_at n i)) (bit_at_ones_above k i high) ∙ omega arith)
    (cases_lt i k)
    ∙ sym (bit_at-zero i))

-- how many bits of a row's last byte are unused
abbrev pub unused_bits : ℕ → ℕ
unused_bits w = (8 - w % 8) % 8

last_byte : (w r c : ℕ) → w ≤ c → c < 8 * row_bytes w → place w r c / 8 ≡ r * row_bytes w + row_bytes w - 1
last_byte w r c past across = place_byte w r c ∙ omega arith

unused_bit : (w r c : ℕ) → w ≤ c → c < 8 * row_bytes w → 7 - place w r c % 8 < unused_bits w
unused_bit w r c past across = let bit = place_bit w r c in omega arith

blank_bit : (w r c : ℕ) (bytes : List ℕ) → w ≤ c → c < 8 * row_bytes w → bit_and (get_or bytes (r * row_bytes w + row_bytes w - 1) 0) (2 ^ unused_bits w - 1) ≡ 0 → black_at bytes (place w r c) ≡ false
blank_bit w r c bytes past across clear =
    ap (λ m. eqb (bit_at (get_or bytes m 0) (7 - place w r c % 8)) 1) (last_byte w r c past across)
    ∙ ap (λ bit. eqb bit 1) (low_bits_clear (get_or bytes (r * row_bytes w + row_bytes w - 1) 0) (unused_bits w) clear (7 - place w r c % 8) (unused_bit w r c past across))

-- one more row with a blank end
pub blank_ends_more : (w r : ℕ) (bytes : List ℕ) → HasBlankEnds w r bytes → bit_and (get_or bytes (r * row_bytes w + row_bytes w - 1) 0) (2 ^ unused_bits w - 1) ≡ 0 → HasBlankEnds w (r + 1) bytes
blank_ends_more w r bytes ends clear = record {
  blank = λ k c below past across. ⊎_elim
      (λ before. ends.blank k c before past across)
      (λ since.
      let here : k ≡ r = omega arith in
      ap (λ n. black_at bytes (place w n c)) here ∙ blank_bit w r c bytes past across clear)
      (cases_lt k r);
}

not_set : (x : ℕ) → x < 2 → eqb x 1 ≡ false → x ≡ 0
not_set zero small white = refl
not_set (suc zero) small white = cc
not_set (suc (suc n)) small white = absurd (omega arith)

-- the unused bits of a row with a blank end
pub clear_end : (w h r : ℕ) (bytes : List ℕ) → HasBlankEnds w h bytes → r < h → unused_bits w ≢ 0 → bit_and (get_or bytes (r * row_bytes w + row_bytes w - 1) 0) (2 ^ unused_bits w - 1) ≡ 0
clear_end w h r bytes ends below some =
    clear_low_bits (get_or bytes (r * row_bytes w + row_bytes w - 1) 0) (unused_bits w)
    (λ i low.
    let c : ℕ = 8 * row_bytes w - 1 - i in
    let past : w ≤ 8 * row_bytes w - 1 - i = omega arith in
    let across : 8 * row_bytes w - 1 - i < 8 * row_bytes w = omega arith in
    let bit : 7 - place w r (8 * row_bytes w - 1 - i) % 8 ≡ i = let b = place_bit w r (8 * row_bytes w - 1 - i) in omega arith in
    not_set (bit_at (get_or bytes (r * row_bytes w + row_bytes w - 1) 0) i) (bit_at-lt _ _)
    (ap (λ m. eqb (bit_at (get_or bytes (r * row_bytes w + row_bytes w - 1) 0) m) 1) (sym bit)
    ∙ ap (λ m. eqb (bit_at (get_or bytes m 0) (7 - place w r (8 * row_bytes w - 1 - i) % 8)) 1) (sym (last_byte w r (8 * row_bytes w - 1 - i) past across))
    ∙ ends.blank r (8 * row_bytes w - 1 - i) below past across))

-- no row has unused bits
pub no_unused : (w h : ℕ) (bytes : List ℕ) → unused_bits w ≡ 0 → HasBlankEnds w h bytes
no_unused w h bytes none = record { blank = λ r c below past across. absurd (omega arith) }

pub no_rows : (w : ℕ) (bytes : List ℕ) → HasBlankEnds w 0 bytes
no_rows w bytes = record { blank = λ r c below past across. absurd (omega arith) }

-- `1 << k` within 8 bits
pub byte_shl : (k : ℕ) → k < 8 → 1 * 2 ^ k % 2 ^ 8 ≡ 2 ^ k
byte_shl k small = ap (λ n. n % 2 ^ 8) (omega arith) ∙ mod-eq_of_lt (pow_below k 8 small)
