-- The codes of ITU-T T.6 (1988), as they stand in print: strings of 0 and 1, the first bit first.
use Rattle.std.specs.Prelude.{ℕ, ◌==◌, Bool, List, [], ◌∷◌, ◌++◌, codes, map, if◌then◌else◌}

-- the bits of a printed code: a 1 (49 in ASCII) is true
abbrev pub bits_in_print : List ℕ → List Bool
bits_in_print characters = map (λ c. c == 49) characters

-- one bit more before the first code
abbrev pub onto_first : Bool → List (List Bool) → List (List Bool)
onto_first b [] = (b ∷ []) ∷ []
onto_first b (code ∷ rest) = (b ∷ code) ∷ rest

-- the codes of a printed line, with one space (32) between each two
abbrev pub line : List ℕ → List (List Bool)
line [] = [] ∷ []
line (c ∷ characters) = if c == 32 then [] ∷ line characters else onto_first (c == 49) (line characters)

-- table 2/T.6, terminating codes, white: runs of 0 to 63 pixels in turn, eight a line
abbrev pub white_terminating : List (List Bool)
white_terminating =
    line (codes "00110101 000111 0111 1000 1011 1100 1110 1111")
    ++ line (codes "10011 10100 00111 01000 001000 000011 110100 110101")
    ++ line (codes "101010 101011 0100111 0001100 0001000 0010111 0000011 0000100")
    ++ line (codes "0101000 0101011 0010011 0100100 0011000 00000010 00000011 00011010")
    ++ line (codes "00011011 00010010 00010011 00010100 00010101 00010110 00010111 00101000")
    ++ line (codes "00101001 00101010 00101011 00101100 00101101 00000100 00000101 00001010")
    ++ line (codes "00001011 01010010 01010011 01010100 01010101 00100100 00100101 01011000")
    ++ line (codes "01011001 01011010 01011011 01001010 01001011 00110010 00110011 00110100")

-- table 3/T.6, make-up codes, white: runs of 64 to 1728 pixels in steps of 64, eight a line
abbrev pub white_make_up : List (List Bool)
white_make_up =
    line (codes "11011 10010 010111 0110111 00110110 00110111 01100100 01100101")
    ++ line (codes "01101000 01100111 011001100 011001101 011010010 011010011 011010100 011010101")
    ++ line (codes "011010110 011010111 011011000 011011001 011011010 011011011 010011000 010011001")
    ++ line (codes "010011010 011000 010011011")

-- table 2/T.6, terminating codes, black: runs of 0 to 63 pixels in turn, eight a line
abbrev pub black_terminating : List (List Bool)
black_terminating =
    line (codes "0000110111 010 11 10 011 0011 0010 00011")
    ++ line (codes "000101 000100 0000100 0000101 0000111 00000100 00000111 000011000")
    ++ line (codes "0000010111 0000011000 0000001000 00001100111 00001101000 00001101100 00000110111 00000101000")
    ++ line (codes "00000010111 00000011000 000011001010 000011001011 000011001100 000011001101 000001101000 000001101001")
    ++ line (codes "000001101010 000001101011 000011010010 000011010011 000011010100 000011010101 000011010110 000011010111")
    ++ line (codes "000001101100 000001101101 000011011010 000011011011 000001010100 000001010101 000001010110 000001010111")
    ++ line (codes "000001100100 000001100101 000001010010 000001010011 000000100100 000000110111 000000111000 000000100111")
    ++ line (codes "000000101000 000001011000 000001011001 000000101011 000000101100 000001011010 000001100110 000001100111")

-- table 3/T.6, make-up codes, black: runs of 64 to 1728 pixels in steps of 64, eight a line
abbrev pub black_make_up : List (List Bool)
black_make_up =
    line (codes "0000001111 000011001000 000011001001 000001011011 000000110011 000000110100 000000110101 0000001101100")
    ++ line (codes "0000001101101 0000001001010 0000001001011 0000001001100 0000001001101 0000001110010 0000001110011 0000001110100")
    ++ line (codes "0000001110101 0000001110110 0000001110111 0000001010010 0000001010011 0000001010100 0000001010101 0000001011010")
    ++ line (codes "0000001011011 0000001100100 0000001100101")

-- table 3/T.6, make-up codes of both colours: runs of 1792 to 2560 pixels in steps of 64, eight a line
abbrev pub common_make_up : List (List Bool)
common_make_up =
    line (codes "00000001000 00000001100 00000001101 000000010010 000000010011 000000010100 000000010101 000000010110")
    ++ line (codes "000000010111 000000011100 000000011101 000000011110 000000011111")

-- the three tables, each code as its bits; a proof sees into them only where it says so
-- by ITU-T T.6, tables 2 and 3
unfoldable pub white_codes : List (List Bool)
white_codes = white_terminating ++ white_make_up ++ common_make_up

-- the codes of black runs by their row: terminating codes, then make-up codes
-- by ITU-T T.6, tables 2 and 3
unfoldable pub black_codes : List (List Bool)
black_codes = black_terminating ++ black_make_up ++ common_make_up

-- table 1/T.6: pass, horizontal, and vertical with a1 at b1 (V0), 1, 2 and 3 to its right (VR1 to VR3), and 1, 2
-- and 3 to its left (VL1 to VL3)
-- by ITU-T T.6, table 1
unfoldable pub mode_codes : List (List Bool)
mode_codes =
    line (codes "0001 001 1 011 000011 0000011 010 000010 0000010")

-- table 1/T.6: what an extension begins with
-- by ITU-T T.6, table 1 and EOFB
abbrev pub extension_code : List Bool
extension_code = bits_in_print (codes "0000001")

-- the end-of-line code of ITU-T T.4; two of them are the end of a facsimile block (EOFB of T.6)
-- by ITU-T T.6, table 1 and EOFB
abbrev pub end_code : List Bool
end_code = bits_in_print (codes "000000000001")

-- the end-of-facsimile-block
-- by ITU-T T.6, table 1 and EOFB
abbrev pub end_of_block : List Bool
end_of_block = end_code ++ end_code
