-- Lemmas of codes that are copied: bits piece by piece, and the bits of a strip between which the code of a row of its page lies.
use Rattle.std.proofs.Common.{ℕ, zero, suc, ◌+◌, ◌-◌, ◌*◌, ◌/◌, ◌%◌, ◌^◌, ◌<◌, ◌≤◌, ◌≡◌, Bool, false, Some, List, [], ◌∷◌, ◌++◌, length, drop, take, replicate, refl, ap, sym, ◌∙◌, subst, arith, append_assoc, length-append, length-drop, drop-cons, take-take}
use Rattle.std.specs.Prelude.{slice_get, slice_range}
use Rattle.std.proofs.lemmas.Nat.{div_below, pow-add, pow_below, pow_pos}
use Rattle.std.proofs.lemmas.List.{drop-drop, drop-take, get_or-take, length-replicate, length-take, take-append-drop, take_at, take_more}
use Rattle.bp_codes.specs.Ahead.{IsAhead}
use Rattle.bp_codes.specs.Bits.{low_bits, number_of_bits}
use Rattle.bp_codes.proofs.AheadLemmas.{window_ahead}
use Rattle.bp_rows.specs.Bits.{row_bytes}
use Rattle.bp_rows.specs.Image.{Image, IsPage, row_of}
use Rattle.bp_rows.proofs.PixelLemmas.{pixels_in-packed_row}
use Rattle.bp_t6.specs.Read.{RowReads}
use Rattle.bp_t6.specs.SoFar.{last_line, row_above, HaveWidth, LinesTo, ReadSoFar, ReadsPage}
use Rattle.bp_t6.specs.Written.{row_code, lines_code, white_line, strip_bits}
use Rattle.bp_t6.proofs.CodeLemmas.{low_bits-number_of}
use Rattle.bp_t6.proofs.LawLemmas.{row_read}
use Rattle.bp_t6.proofs.OneReadingLemmas.{AreFree, one_row}
use Rattle.bp_t6.proofs.StripLemmas.{last-more}

-- ---- bits piece by piece

pub length-range : (bits : List Bool) (from to : ℕ) → to ≤ length bits → length (slice_range bits from to) ≡ to - from
length-range bits from to within = omega (arith, length-take (to - from) (drop from bits), length-drop from bits)

-- bits of some bits are bits of all
pub piece_lies : (bits : List Bool) (from to at len : ℕ) → at + len ≤ to - from → take len (drop (from + at) bits) ≡ take len (drop at (slice_range bits from to))
piece_lies bits from to at len fits =
    let size : to - from ≡ at + (to - from - at) = omega arith in
    sym (ap (λ n. take len (drop at (take n (drop from bits)))) size
    ∙ ap (take len) (drop-take at (to - from - at) (drop from bits))
    ∙ take-take len (to - from - at) (drop at (drop from bits)) (omega arith)
    ∙ ap (take len) (drop-drop at from bits))

-- the bit at a place
pub bit_there : (bits : List Bool) (at : ℕ) (b : Bool) → slice_get bits at ≡ Some b → take 1 (drop at bits) ≡ b ∷ []
bit_there [] at b e = absurd cc
bit_there (x ∷ bits) zero b e = let same : x ≡ b = cc in ap (λ (y : Bool). y ∷ []) same
bit_there (x ∷ bits) (suc at) b e = bit_there bits at b e

-- the first bits of a look-ahead, as a number
first_number : (word len : ℕ) (bits : List Bool) → IsAhead word bits → len ≤ 13 → word < 2 ^ 64 → word / 2 ^ (64 - len) ≡ number_of_bits (take len bits)
first_number word len bits ahead short small =
    let same : word ≡ word * 2 ^ 0 % 2 ^ 64 = omega (arith, small) in
    ap (λ v. v / 2 ^ (64 - len)) same ∙ window_ahead word 0 len bits ahead (omega arith)

pub first_code : (word len number : ℕ) (bits : List Bool) → IsAhead word bits → len ≤ 13 → word < 2 ^ 64 → number ≡ word / 2 ^ (64 - len) → low_bits len number ≡ take len bits
first_code word len number bits ahead short small is =
    let front = take len bits in
    let long : length front ≡ len = omega (arith, length-take len bits, ahead.long) in
    ap (low_bits len) (is ∙ first_number word len bits ahead short small)
    ∙ ap (λ n. low_bits n (number_of_bits front)) (sym long) ∙ low_bits-number_of front

pub first_below : (word len : ℕ) → len ≤ 13 → word < 2 ^ 64 → word / 2 ^ (64 - len) < 2 ^ len
first_below word len short small =
    let size : 64 ≡ len + (64 - len) = omega arith in
    div_below word (2 ^ (64 - len)) (2 ^ len) (pow_pos (64 - len)) (subst (λ (n : ℕ). word < n) (ap (λ n. 2 ^ n) size ∙ pow-add 2 len (64 - len)) small)

pub first_fits : (word len : ℕ) → len ≤ 13 → word < 2 ^ 64 → word / 2 ^ (64 - len) < 2 ^ 32
first_fits word len short small = omega (arith, first_below word len short small, pow_below len 14 (omega arith))

-- ---- what is left of a strip behind some of its lines

-- the codes of lines begin those of the lines and of more
own_rest : (width : ℕ) (above pad : List Bool) (lines more : List (List Bool)) → length above ≡ width → HaveWidth width lines
    → LinesTo above (lines_code above (lines ++ more) ++ pad) lines (lines_code (last_line above lines) more ++ pad)
own_rest width above pad [] more long wide = refl
own_rest width above pad (line ∷ lines) more long wide =
    let here : length line ≡ width = wide 0 (omega arith) in
    let rest = lines_code line (lines ++ more) ++ pad in
    let P : List Bool → Type 0 = λ bits. RowReads above bits line rest in (
      rest,
      subst P (sym (append_assoc (row_code above line) (lines_code line (lines ++ more)) pad)) (row_read above line rest (long ∙ sym here)),
      own_rest width line pad lines more here (λ i h. wide (suc i) (omega arith)),
    )

-- nothing else is left
same_rest : (above bits : List Bool) (lines : List (List Bool)) (first second : List Bool) → AreFree → LinesTo above bits lines first → LinesTo above bits lines second → first ≡ second
same_rest above bits [] first second free h k = sym h ∙ k
same_rest above bits (line ∷ lines) first second free h k =
    let one = one_row above bits line line h.0 k.0 free h.1 k.1 in
    same_rest line h.0 lines first second free h.2 (subst (λ (bs : List Bool). LinesTo line bs lines second) (sym one.1) k.2)

-- what the end of a strip leaves is no less than the end of the block
some_code : (above : List Bool) (lines : List (List Bool)) → 0 < length (lines_code above lines)
some_code above [] = let long : length (lines_code above []) ≡ 24 = refl in omega (arith, long)
some_code above (line ∷ lines) = omega (arith, length-append (row_code above line) (lines_code line lines), some_code line lines)

-- ---- over the strip of a page

abbrev pub pad_of : Image → List Bool
pad_of p = replicate (8 * row_bytes (length (strip_bits p)) - length (strip_bits p)) false

-- the rows of a page are some rows and the others
rows_split : (p : Image) (count : ℕ) → take count p.rows ++ drop count p.rows ≡ p.rows
rows_split p count = take-append-drop count p.rows

front_wide : (p : Image) (count : ℕ) → IsPage p → HaveWidth p.width (take count p.rows)
front_wide p count page i h =
    let short : i < p.height = omega (arith, length-take count p.rows, page.grid.down) in
    let below : i < count = omega (arith, length-take count p.rows) in
    ap length (get_or-take count p.rows i [] below) ∙ page.grid.across i short

-- what is left behind some rows are the codes of the others
pub left_of : (p : Image) (count : ℕ) (reader : ReadSoFar) → AreFree → IsPage p → ReadsPage p count reader
    → drop reader.at reader.bits ≡ lines_code (row_above p count) (drop count p.rows) ++ pad_of p
left_of p count reader free page reads =
    let white = white_line p.width in
    let lines = take count p.rows in
    let bits_are : reader.bits ≡ lines_code white (lines ++ drop count p.rows) ++ pad_of p =
    reads.bits ∙ pixels_in-packed_row (strip_bits p) ∙ ap (λ rows. lines_code white rows ++ pad_of p) (sym (rows_split p count)) in
    let read : LinesTo white reader.bits lines (drop reader.at reader.bits) =
    subst (λ (w : ℕ). LinesTo (white_line w) reader.bits lines (drop reader.at reader.bits)) reads.width reads.read.read in
    same_rest white (lines_code white (lines ++ drop count p.rows) ++ pad_of p) lines (drop reader.at reader.bits) _ free
    (subst (λ (bs : List Bool). LinesTo white bs lines (drop reader.at reader.bits)) bits_are read)
    (own_rest p.width white (pad_of p) lines (drop count p.rows) (length-replicate p.width false) (front_wide p count page))

-- one row of those that are left
next_left : (p : Image) (count : ℕ) → count < length p.rows → drop count p.rows ≡ row_of p count ∷ drop (count + 1) p.rows
next_left p count within =
    let next : suc count ≡ count + 1 = omega arith in
    drop-cons p.rows count [] within ∙ ap (λ n. row_of p count ∷ drop n p.rows) next

-- the bits between which a code lies
between : (bits code : List Bool) (from to : ℕ) → drop from bits ≡ code ++ drop to bits → 0 < length (drop to bits) → (from ≤ to) × (slice_range bits from to ≡ code)
between bits code from to is some =
    let size : length (drop from bits) ≡ length code + length (drop to bits) = ap length is ∙ length-append code (drop to bits) in
    let long : length code ≡ to - from = omega (arith, size, length-drop from bits, length-drop to bits) in
    let order : from ≤ to = omega (arith, size, length-drop from bits, length-drop to bits) in
    (order, ap (take (to - from)) is ∙ take_at code (drop to bits) (to - from) long)

pub code_lies : (p : Image) (count : ℕ) (old new : ReadSoFar) → AreFree → IsPage p → count < p.height → ReadsPage p count old → ReadsPage p (count + 1) new
    → (old.at ≤ new.at) × (slice_range new.bits old.at new.at ≡ row_code (row_above p count) (row_of p count))
code_lies p count old new free page less before after =
    let white = white_line p.width in
    let within : count < length p.rows = omega (arith, page.grid.down) in
    let row = row_of p count in
    let above = row_above p count in
    let others = lines_code row (drop (count + 1) p.rows) in
    let last : last_line white (take (count + 1) p.rows) ≡ row = ap (last_line white) (take_more p.rows count [] within) ∙ last-more white (take count p.rows) row in
    let behind : drop new.at new.bits ≡ others ++ pad_of p = left_of p (count + 1) new free page after ∙ ap (λ l. lines_code l (drop (count + 1) p.rows) ++ pad_of p) last in
    let same : old.bits ≡ new.bits = before.bits ∙ sym after.bits in
    let left : drop old.at new.bits ≡ row_code above row ++ drop new.at new.bits =
    ap (drop old.at) (sym same) ∙ left_of p count old free page before
    ∙ ap (λ rows. lines_code above rows ++ pad_of p) (next_left p count within)
    ∙ append_assoc (row_code above row) others (pad_of p)
    ∙ ap (λ bs. row_code above row ++ bs) (sym behind) in
    let some : 0 < length (drop new.at new.bits) = omega (arith, ap length behind, length-append others (pad_of p), some_code row (drop (count + 1) p.rows)) in
    between new.bits (row_code above row) old.at new.at left some
