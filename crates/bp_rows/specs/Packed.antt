-- The packed strip of an uncompressed bilevel image (TIFF 6.0, section 3, and section 8,
-- Compression 1 and FillOrder 1): rows one after another, each in whole bytes, the first pixel in
-- the high bit, black as 1, unused bits 0.
use Rattle.std.specs.Prelude.{ℕ, ◌+◌, ◌*◌, Bool, false, List, length, map, slice_index_or, if◌then◌else◌}
use Rattle.std.specs.List.{range_with_len, flat_map}
use Rattle.bp_rows.specs.Bits.{row_bytes}

-- a pixel of a row as a digit, 0 past its end
abbrev pub digit_at : List Bool → ℕ → ℕ
digit_at row col = if slice_index_or row col false then 1 else 0

-- eight pixels from a column on, the first of them worth 128
-- by TIFF 6.0, section 3; section 8, Compression 1 and FillOrder 1
abbrev pub packed_byte : List Bool → ℕ → ℕ
packed_byte row col =
    128 * digit_at row col + 64 * digit_at row (col + 1)
    + 32 * digit_at row (col + 2) + 16 * digit_at row (col + 3)
    + 8 * digit_at row (col + 4) + 4 * digit_at row (col + 5)
    + 2 * digit_at row (col + 6) + digit_at row (col + 7)

-- the bytes of a row
-- by TIFF 6.0, section 3; section 8, Compression 1 and FillOrder 1
abbrev pub packed_row : List Bool → List ℕ
packed_row row = map (λ i. packed_byte row (8 * i)) (range_with_len 0 (row_bytes (length row)))

-- the bytes of rows, one behind the other
-- by TIFF 6.0, section 3; section 8, Compression 1 and FillOrder 1
abbrev pub packed_rows : List (List Bool) → List ℕ
packed_rows rows = flat_map packed_row rows
