-- Lemmas on packed rows: carry a packed row over to its pixels, with white ones to the byte.
use Rattle.std.proofs.Common.{ℕ, zero, suc, ◌+◌, ◌-◌, ◌*◌, ◌<◌, ◌≤◌, ◌≡◌, Bool, true, false, cond, eqb, List, [], ◌∷◌, ◌++◌, length, get_or, drop, take, map, replicate, refl, ap, sym, ◌∙◌, arith, add-zero}
use Rattle.std.specs.Int.{bit_at}
use Rattle.std.specs.List.{range_with_len, flat_map}
use Rattle.std.proofs.lemmas.List.{replicate-append-replicate, get_or-drop, drop-drop, take_at, drop_at}
use Rattle.bp_rows.specs.Bits.{row_bytes}
use Rattle.bp_rows.specs.Image.{Image, IsGrid, row_of}
use Rattle.bp_rows.specs.Packed.{digit_at, packed_byte, packed_row, packed_rows}
use Rattle.bp_rows.proofs.PackedLemmas.{length-packed_row}
use Rattle.bp_rows.specs.Words.{is_one, byte_pixels, pixels_in_bytes}

abbrev number : (ℕ → ℕ) → ℕ
number d = 128 * d 0 + 64 * d 1 + 32 * d 2 + 16 * d 3 + 8 * d 4 + 4 * d 5 + 2 * d 6 + d 7

bits_of_sum : (d : ℕ → ℕ) → ((j : ℕ) → d j < 2) → (j : ℕ) → j < 8 → bit_at (number d) (7 - j) ≡ d j
bits_of_sum d low zero small = omega (arith, low 0, low 1, low 2, low 3, low 4, low 5, low 6, low 7)
bits_of_sum d low (suc zero) small = omega (arith, low 0, low 1, low 2, low 3, low 4, low 5, low 6, low 7)
bits_of_sum d low (suc (suc zero)) small = omega (arith, low 0, low 1, low 2, low 3, low 4, low 5, low 6, low 7)
bits_of_sum d low (suc (suc (suc zero))) small = omega (arith, low 0, low 1, low 2, low 3, low 4, low 5, low 6, low 7)
bits_of_sum d low (suc (suc (suc (suc zero)))) small = omega (arith, low 0, low 1, low 2, low 3, low 4, low 5, low 6, low 7)
bits_of_sum d low (suc (suc (suc (suc (suc zero))))) small = omega (arith, low 0, low 1, low 2, low 3, low 4, low 5, low 6, low 7)
bits_of_sum d low (suc (suc (suc (suc (suc (suc zero)))))) small = omega (arith, low 0, low 1, low 2, low 3, low 4, low 5, low 6, low 7)
bits_of_sum d low (suc (suc (suc (suc (suc (suc (suc zero))))))) small = omega (arith, low 0, low 1, low 2, low 3, low 4, low 5, low 6, low 7)
bits_of_sum d low (suc (suc (suc (suc (suc (suc (suc (suc n)))))))) small = absurd (omega arith)

digit_of_small : (b : Bool) → cond b 1 0 < 2
digit_of_small true = omega arith
digit_of_small false = omega arith

pixel_of_digit : (b : Bool) → eqb (cond b 1 0) 1 ≡ b
pixel_of_digit true = refl
pixel_of_digit false = refl

byte_of_digits : (row : List Bool) (col : ℕ) → packed_byte row col ≡ number (λ j. digit_at row (col + j))
byte_of_digits row col = simp add-zero

one_bit : (row : List Bool) (col j : ℕ) → j < 8 → is_one (packed_byte row col) (7 - j) ≡ get_or row (col + j) false
one_bit row col j small =
    ap (λ b. is_one b (7 - j)) (byte_of_digits row col)
    ∙ ap (λ n. eqb n 1) (bits_of_sum (λ j. digit_at row (col + j)) (λ j. digit_of_small (get_or row (col + j) false)) j small)
    ∙ pixel_of_digit (get_or row (col + j) false)

-- eight pixels a turn, with white past the end
abbrev padded : ℕ → List Bool → List Bool
padded zero row = []
padded (suc n) row =
    get_or row 0 false ∷ get_or row 1 false ∷ get_or row 2 false ∷ get_or row 3 false ∷ get_or row 4 false ∷ get_or row 5 false ∷ get_or row 6 false ∷ get_or row 7 false ∷ padded n (drop 8 row)

white : (m n : ℕ) → m ≡ n → replicate m false ≡ replicate n false
white m n e = ap (λ k. replicate k false) e

padded_nil : (n : ℕ) → padded n [] ≡ replicate (8 * n) false
padded_nil zero = refl
padded_nil (suc n) = ap (λ ps. false ∷ false ∷ false ∷ false ∷ false ∷ false ∷ false ∷ false ∷ ps) (padded_nil n) ∙ replicate-append-replicate 8 (8 * n) false ∙ white (8 + 8 * n) (8 * suc n) (omega arith)

padded_short : (n k : ℕ) (row : List Bool) → length row + k ≡ 8 → get_or row 0 false ∷ get_or row 1 false ∷ get_or row 2 false ∷ get_or row 3 false ∷ get_or row 4 false ∷ get_or row 5 false ∷ get_or row 6 false ∷ get_or row 7 false ∷ [] ≡ row ++ replicate k false
padded_short n k [] h = sym (ap (λ ps. ps) (white k 8 (omega arith)))
padded_short n k (a ∷ []) h = sym (ap (λ ps. a ∷ ps) (white k 7 (omega arith)))
padded_short n k (a ∷ b ∷ []) h = sym (ap (λ ps. a ∷ b ∷ ps) (white k 6 (omega arith)))
padded_short n k (a ∷ b ∷ c ∷ []) h = sym (ap (λ ps. a ∷ b ∷ c ∷ ps) (white k 5 (omega arith)))
padded_short n k (a ∷ b ∷ c ∷ d ∷ []) h = sym (ap (λ ps. a ∷ b ∷ c ∷ d ∷ ps) (white k 4 (omega arith)))
padded_short n k (a ∷ b ∷ c ∷ d ∷ e ∷ []) h = sym (ap (λ ps. a ∷ b ∷ c ∷ d ∷ e ∷ ps) (white k 3 (omega arith)))
padded_short n k (a ∷ b ∷ c ∷ d ∷ e ∷ f ∷ []) h = sym (ap (λ ps. a ∷ b ∷ c ∷ d ∷ e ∷ f ∷ ps) (white k 2 (omega arith)))
padded_short n k (a ∷ b ∷ c ∷ d ∷ e ∷ f ∷ g ∷ []) h = sym (ap (λ ps. a ∷ b ∷ c ∷ d ∷ e ∷ f ∷ g ∷ ps) (white k 1 (omega arith)))
padded_short n k (a ∷ b ∷ c ∷ d ∷ e ∷ f ∷ g ∷ i ∷ []) h = sym (ap (λ ps. a ∷ b ∷ c ∷ d ∷ e ∷ f ∷ g ∷ i ∷ ps) (white k 0 (omega arith)))
padded_short n k (a ∷ b ∷ c ∷ d ∷ e ∷ f ∷ g ∷ i ∷ j ∷ rest) h = absurd (omega arith)

-- the last turn
last_turn : (n k : ℕ) (row : List Bool) → length row ≤ 8 → drop 8 row ≡ [] → length row + k ≡ 8 * suc n → k < 8 → padded (suc n) row ≡ row ++ replicate k false
last_turn n k row short none h small =
    let last : n ≡ 0 = omega arith in
    ap (λ ps. get_or row 0 false ∷ get_or row 1 false ∷ get_or row 2 false ∷ get_or row 3 false ∷ get_or row 4 false ∷ get_or row 5 false ∷ get_or row 6 false ∷ get_or row 7 false ∷ ps) (ap (λ m. padded m (drop 8 row)) last)
    ∙ padded_short n k row (omega arith)

-- the row ends within the turns, and white follows
padded_row : (n k : ℕ) (row : List Bool) → length row + k ≡ 8 * n → k < 8 → padded n row ≡ row ++ replicate k false
padded_row zero k [] h small = white 0 k (omega arith)
padded_row zero k (a ∷ row) h small = absurd (omega arith)
padded_row (suc n) k [] h small = absurd (omega arith)
padded_row (suc n) k (a ∷ []) h small = last_turn n k (a ∷ []) (omega arith) refl h small
padded_row (suc n) k (a ∷ b ∷ []) h small = last_turn n k (a ∷ b ∷ []) (omega arith) refl h small
padded_row (suc n) k (a ∷ b ∷ c ∷ []) h small = last_turn n k (a ∷ b ∷ c ∷ []) (omega arith) refl h small
padded_row (suc n) k (a ∷ b ∷ c ∷ d ∷ []) h small = last_turn n k (a ∷ b ∷ c ∷ d ∷ []) (omega arith) refl h small
padded_row (suc n) k (a ∷ b ∷ c ∷ d ∷ e ∷ []) h small = last_turn n k (a ∷ b ∷ c ∷ d ∷ e ∷ []) (omega arith) refl h small
padded_row (suc n) k (a ∷ b ∷ c ∷ d ∷ e ∷ f ∷ []) h small = last_turn n k (a ∷ b ∷ c ∷ d ∷ e ∷ f ∷ []) (omega arith) refl h small
padded_row (suc n) k (a ∷ b ∷ c ∷ d ∷ e ∷ f ∷ g ∷ []) h small = last_turn n k (a ∷ b ∷ c ∷ d ∷ e ∷ f ∷ g ∷ []) (omega arith) refl h small
padded_row (suc n) k (a ∷ b ∷ c ∷ d ∷ e ∷ f ∷ g ∷ i ∷ row) h small =
    ap (λ ps. a ∷ b ∷ c ∷ d ∷ e ∷ f ∷ g ∷ i ∷ ps) (padded_row n k row (omega arith) small)

same_bits : (row : List Bool) (a n : ℕ) → flat_map byte_pixels (map (λ i. packed_byte row (8 * i)) (range_with_len a n)) ≡ padded n (drop (8 * a) row)
same_bits row a zero = refl
same_bits row a (suc n) =
    let at : (j : ℕ) → j < 8 → is_one (packed_byte row (8 * a)) (7 - j) ≡ get_or (drop (8 * a) row) j false = λ j small. one_bit row (8 * a) j small ∙ sym (get_or-drop (8 * a) row j false) in
    let rest : flat_map byte_pixels (map (λ i. packed_byte row (8 * i)) (range_with_len (a + 1) n)) ≡ padded n (drop 8 (drop (8 * a) row)) =
    same_bits row (a + 1) n ∙ ap (λ k. padded n (drop k row)) (omega arith) ∙ ap (padded n) (sym (drop-drop 8 (8 * a) row)) in
    let b0 = at 0 (omega arith) in let b1 = at 1 (omega arith) in let b2 = at 2 (omega arith) in let b3 = at 3 (omega arith) in
    let b4 = at 4 (omega arith) in let b5 = at 5 (omega arith) in let b6 = at 6 (omega arith) in let b7 = at 7 (omega arith) in
    cc

pub pixels_in-packed_row : (row : List Bool) → pixels_in_bytes (packed_row row) ≡ row ++ replicate (8 * row_bytes (length row) - length row) false
pixels_in-packed_row row =
    same_bits row 0 (row_bytes (length row)) ∙ padded_row (row_bytes (length row)) (8 * row_bytes (length row) - length row) row (omega arith) (omega arith)

-- the bytes of a row among those of all
row_in : (s : ℕ) (rows : List (List Bool)) (r : ℕ) → ((i : ℕ) → i < length rows → length (packed_row (get_or rows i [])) ≡ s) → r < length rows → take s (drop (r * s) (packed_rows rows)) ≡ packed_row (get_or rows r [])
row_in s [] r long within = absurd (omega arith)
row_in s (row ∷ rows) zero long within =
    let none : 0 * s ≡ 0 = omega arith in
    ap (λ n. take s (drop n (packed_row row ++ packed_rows rows))) none ∙ take_at (packed_row row) (packed_rows rows) s (long 0 (omega arith))
row_in s (row ∷ rows) (suc r) long within =
    let size : suc r * s ≡ s + r * s = omega arith in
    ap (λ n. take s (drop n (packed_row row ++ packed_rows rows))) size
    ∙ ap (take s) (sym (drop-drop (r * s) s (packed_row row ++ packed_rows rows)) ∙ ap (drop (r * s)) (drop_at (packed_row row) (packed_rows rows) s (long 0 (omega arith))))
    ∙ row_in s rows r (λ i h. long (suc i) (omega arith)) (omega arith)

pub row_strip : (p : Image) (strip : List ℕ) (r s : ℕ) → IsGrid p.width p.height p.rows → strip ≡ packed_rows p.rows → s ≡ row_bytes p.width → r < p.height → take (r * s + s - r * s) (drop (r * s) strip) ≡ packed_row (row_of p r)
row_strip p strip r s grid packed wide within =
    let size : r * s + s - r * s ≡ s = omega arith in
    ap (λ n. take n (drop (r * s) strip)) size ∙ ap (λ bs. take s (drop (r * s) bs)) packed
    ∙ row_in s p.rows r (λ i h. length-packed_row (get_or p.rows i []) ∙ ap row_bytes (grid.across i (omega (arith, grid.down))) ∙ sym wide) (omega (arith, grid.down))
