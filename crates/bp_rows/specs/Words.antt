-- Packed pixels read by words of eight bytes: the first pixel is the high bit (TIFF 6.0, section 8,
-- FillOrder 1).
use Rattle.std.specs.Prelude.{ℕ, zero, suc, ◌+◌, ◌==◌, Bool, List, [], ◌∷◌, if◌then◌else◌}
use Rattle.std.specs.Int.{bit_at}
use Rattle.std.specs.List.{flat_map}

-- the bit of value 2^k in a number
-- by TIFF 6.0, section 8, FillOrder 1
abbrev pub is_one : ℕ → ℕ → Bool
is_one number k = bit_at number k == 1

-- the k lowest bits of a number as pixels, the highest first
-- by TIFF 6.0, section 8, FillOrder 1
abbrev pub low_pixels : ℕ → ℕ → List Bool
low_pixels zero number = []
low_pixels (suc k) number = is_one number k ∷ low_pixels k number

-- the pixels of a byte
abbrev pub byte_pixels : ℕ → List Bool
byte_pixels b =
    is_one b 7 ∷ is_one b 6 ∷ is_one b 5 ∷ is_one b 4
    ∷ is_one b 3 ∷ is_one b 2 ∷ is_one b 1 ∷ is_one b 0 ∷ []

-- the pixels of bytes in turn
-- by TIFF 6.0, section 8, FillOrder 1
abbrev pub pixels_in_bytes : List ℕ → List Bool
pixels_in_bytes bytes = flat_map byte_pixels bytes

-- the places, counted from one on, of the ones among the k lowest bits of a number, the highest
-- first
-- by TIFF 6.0, section 8, FillOrder 1
abbrev pub ones_from : ℕ → ℕ → ℕ → List ℕ
ones_from at zero n = []
ones_from at (suc k) n = if is_one n k then at ∷ ones_from (at + 1) k n else ones_from (at + 1) k n

-- the same two for the 64 bits of a word; goals show the name and not 64 bits
-- by TIFF 6.0, section 8, FillOrder 1
unfoldable pub word_ones : ℕ → ℕ → List ℕ
word_ones at n = ones_from at 64 n

-- the pixels of a word, its highest bit first
-- by TIFF 6.0, section 8, FillOrder 1
unfoldable pub word_pixels : ℕ → List Bool
word_pixels n = low_pixels 64 n

-- the last pixel of a row, or the one before it
-- by TIFF 6.0, section 8, FillOrder 1
abbrev pub last_of : Bool → List Bool → Bool
last_of before [] = before
last_of before (pixel ∷ row) = last_of pixel row
