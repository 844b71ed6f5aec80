-- The glyphs in hex, as a list of them gives each: seven rows of two digits. Each is run by the check.
use Rattle.std.proofs.Common.{◌≡◌, ℕ, ◌/◌, ◌%◌, ◌^◌, List, [], ◌∷◌, map, refl, Some, None}
use Rattle.bp_codes.specs.Glyphs.{glyph_rows, place_of, rows_at}

-- the seven bytes of a number, the highest first
abbrev seven_bytes : ℕ → List ℕ
seven_bytes n =
    map (λ k. n / 256 ^ k % 256) (6 ∷ 5 ∷ 4 ∷ 3 ∷ 2 ∷ 1 ∷ 0 ∷ [])

in_hex : glyph_rows ≡ map seven_bytes (
    0x0E11111F111111 ∷ 0x1E11111E11111E ∷ 0x0E11101010110E ∷ 0x1E11111111111E ∷
    0x1F10101E10101F ∷ 0x1F10101E101010 ∷ 0x0E11101711110F ∷ 0x1111111F111111 ∷
    0x0E04040404040E ∷ 0x0702020202120C ∷ 0x11121418141211 ∷ 0x1010101010101F ∷
    0x111B1515111111 ∷ 0x11191513111111 ∷ 0x0E11111111110E ∷ 0x1E11111E101010 ∷
    0x0E11111115120D ∷ 0x1E11111E141211 ∷ 0x0F10100E01011E ∷ 0x1F040404040404 ∷
    0x1111111111110E ∷ 0x11111111110A04 ∷ 0x11111115151B11 ∷ 0x11110A040A1111 ∷
    0x11110A04040404 ∷ 0x1F01020408101F ∷ 0x0E11131519110E ∷ 0x040C040404040E ∷
    0x0E11010204081F ∷ 0x1F02040201110E ∷ 0x02060A121F0202 ∷ 0x1F101E0101110E ∷
    0x0608101E11110E ∷ 0x1F010204080808 ∷ 0x0E11110E11110E ∷ 0x0E11110F01020C ∷
    0x0000001F000000 ∷ 0x0000000000001F ∷ 0x00000000000C0C ∷ 0x00000000000000 ∷ [])
unfolding glyph_rows
in_hex = refl

letter_i : rows_at glyph_rows 73 ≡ Some (0x0E ∷ 4 ∷ 4 ∷ 4 ∷ 4 ∷ 4 ∷ 0x0E ∷ [])
unfolding glyph_rows
letter_i = refl

the_space : rows_at glyph_rows 32 ≡ Some (0 ∷ 0 ∷ 0 ∷ 0 ∷ 0 ∷ 0 ∷ 0 ∷ [])
unfolding glyph_rows
the_space = refl

-- no small letter has a glyph
small_a : rows_at glyph_rows 97 ≡ None
small_a = refl

last_place : place_of 32 ≡ Some 39
last_place = refl
