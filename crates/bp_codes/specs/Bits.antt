-- Lists of bits, and the bits of bytes.
use Rattle.std.specs.Prelude.{ℕ, zero, suc, ◌+◌, ◌^◌, ◌==◌, Bool, List, [], ◌∷◌, length, slice_index, if◌then◌else◌}
use Rattle.std.specs.Int.{bit_at}
use Rattle.std.specs.List.{flat_map}
use Rattle.bp_codes.specs.declared.span.Fill.{Fill}
use Rattle.bp_codes.specs.declared.span.Fill.TheVariants.{High, Low}
use Rattle.bp_codes.specs.declared.code.Code.{Code}

-- the bit of value 2^k in a number
abbrev pub bit : ℕ → ℕ → Bool
bit number k = bit_at number k == 1

-- the bits of a byte in turn: under High from the bit of value 128 down, under Low from the bit of value 1 up
-- (TIFF 6.0, section 8, FillOrder 1 and 2)
-- by TIFF 6.0, section 8, FillOrder 1 and 2
abbrev pub byte_bits : Fill → ℕ → List Bool
byte_bits High b =
    bit b 7 ∷ bit b 6 ∷ bit b 5 ∷ bit b 4 ∷ bit b 3 ∷ bit b 2 ∷ bit b 1 ∷ bit b 0 ∷ []
byte_bits Low b =
    bit b 0 ∷ bit b 1 ∷ bit b 2 ∷ bit b 3 ∷ bit b 4 ∷ bit b 5 ∷ bit b 6 ∷ bit b 7 ∷ []

-- the bits of bytes in turn
-- by TIFF 6.0, section 8, FillOrder 1 and 2
abbrev pub bits_of : Fill → List ℕ → List Bool
bits_of fill bytes = flat_map (byte_bits fill) bytes

-- the number whose binary digits these bits are, the highest first
abbrev pub number_of_bits : List Bool → ℕ
number_of_bits [] = 0
number_of_bits (b ∷ bits) = (if b then 2 ^ length bits else 0) + number_of_bits bits

-- the code of these bits: the number that they are, and how many they are
abbrev pub code_of_bits : List Bool → Code
code_of_bits bits = record { bits = number_of_bits bits; len = length bits }

-- the k lowest bits of a number, the highest first
abbrev pub low_bits : ℕ → ℕ → List Bool
low_bits zero number = []
low_bits (suc k) number = bit number k ∷ low_bits k number

-- the bits of a code
abbrev pub code_bits : Code → List Bool
code_bits code = low_bits code.len code.bits

-- the number that the bits of four bytes from a place on are, with zeros past the last byte
abbrev pub word_at : Fill → List ℕ → ℕ → ℕ
word_at fill bytes first =
    number_of_bits
    (bits_of fill
    (slice_index bytes first ∷ slice_index bytes (first + 1)
    ∷ slice_index bytes (first + 2) ∷ slice_index bytes (first + 3) ∷ []))
