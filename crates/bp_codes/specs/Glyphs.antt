-- The glyphs in which labels and designations are drawn. They come from no public standard: they
-- are this product's own.
use Rattle.std.specs.Prelude.{ℕ, ◌==◌, Bool, List, [], ◌∷◌, ◌++◌, codes, map, Option, position, slice_get, slice_index_or}
use Rattle.std.specs.Option.{option_and_then}
use Rattle.bp_codes.specs.Bits.{number_of_bits}
use Rattle.bp_codes.specs.CodeLists.{line}

-- the characters that have a glyph, in the order of the table
abbrev pub alphabet : List ℕ
alphabet = codes "ABCDEFGHIJKLMNOPQRSTUVWXYZ0123456789-_. "

-- the glyph at a place of printed lines: the piece of each line at that place is a row, whose bits
-- are a number
abbrev pub glyph_at : List (List (List Bool)) → ℕ → List ℕ
glyph_at lines place = map (λ pieces. number_of_bits (slice_index_or pieces place [])) lines

-- the eight glyphs of printed lines, with one space between each two; a 1 is black
abbrev pub eight : List (List ℕ) → List (List ℕ)
eight lines =
    map (glyph_at (map line lines)) (0 ∷ 1 ∷ 2 ∷ 3 ∷ 4 ∷ 5 ∷ 6 ∷ 7 ∷ [])

-- A B C D E F G H
abbrev pub letters_a_to_h : List (List ℕ)
letters_a_to_h =
    eight
    (codes ".111. 1111. .111. 1111. 11111 11111 .111. 1...1"
    ∷ codes "1...1 1...1 1...1 1...1 1.... 1.... 1...1 1...1"
    ∷ codes "1...1 1...1 1.... 1...1 1.... 1.... 1.... 1...1"
    ∷ codes "11111 1111. 1.... 1...1 1111. 1111. 1.111 11111"
    ∷ codes "1...1 1...1 1.... 1...1 1.... 1.... 1...1 1...1"
    ∷ codes "1...1 1...1 1...1 1...1 1.... 1.... 1...1 1...1"
    ∷ codes "1...1 1111. .111. 1111. 11111 1.... .1111 1...1"
    ∷ [])

-- I J K L M N O P
abbrev pub letters_i_to_p : List (List ℕ)
letters_i_to_p =
    eight
    (codes ".111. ..111 1...1 1.... 1...1 1...1 .111. 1111."
    ∷ codes "..1.. ...1. 1..1. 1.... 11.11 11..1 1...1 1...1"
    ∷ codes "..1.. ...1. 1.1.. 1.... 1.1.1 1.1.1 1...1 1...1"
    ∷ codes "..1.. ...1. 11... 1.... 1.1.1 1..11 1...1 1111."
    ∷ codes "..1.. ...1. 1.1.. 1.... 1...1 1...1 1...1 1...."
    ∷ codes "..1.. 1..1. 1..1. 1.... 1...1 1...1 1...1 1...."
    ∷ codes ".111. .11.. 1...1 11111 1...1 1...1 .111. 1...."
    ∷ [])

-- Q R S T U V W X
abbrev pub letters_q_to_x : List (List ℕ)
letters_q_to_x =
    eight
    (codes ".111. 1111. .1111 11111 1...1 1...1 1...1 1...1"
    ∷ codes "1...1 1...1 1.... ..1.. 1...1 1...1 1...1 1...1"
    ∷ codes "1...1 1...1 1.... ..1.. 1...1 1...1 1...1 .1.1."
    ∷ codes "1...1 1111. .111. ..1.. 1...1 1...1 1.1.1 ..1.."
    ∷ codes "1.1.1 1.1.. ....1 ..1.. 1...1 1...1 1.1.1 .1.1."
    ∷ codes "1..1. 1..1. ....1 ..1.. 1...1 .1.1. 11.11 1...1"
    ∷ codes ".11.1 1...1 1111. ..1.. .111. ..1.. 1...1 1...1"
    ∷ [])

-- Y Z 0 1 2 3 4 5
abbrev pub y_z_and_0_to_5 : List (List ℕ)
y_z_and_0_to_5 =
    eight
    (codes "1...1 11111 .111. ..1.. .111. 11111 ...1. 11111"
    ∷ codes "1...1 ....1 1...1 .11.. 1...1 ...1. ..11. 1...."
    ∷ codes ".1.1. ...1. 1..11 ..1.. ....1 ..1.. .1.1. 1111."
    ∷ codes "..1.. ..1.. 1.1.1 ..1.. ...1. ...1. 1..1. ....1"
    ∷ codes "..1.. .1... 11..1 ..1.. ..1.. ....1 11111 ....1"
    ∷ codes "..1.. 1.... 1...1 ..1.. .1... 1...1 ...1. 1...1"
    ∷ codes "..1.. 11111 .111. .111. 11111 .111. ...1. .111."
    ∷ [])

-- 6 7 8 9 - _ . and the space
abbrev pub digits_6_to_9_and_signs : List (List ℕ)
digits_6_to_9_and_signs =
    eight
    (codes "..11. 11111 .111. .111. ..... ..... ..... ....."
    ∷ codes ".1... ....1 1...1 1...1 ..... ..... ..... ....."
    ∷ codes "1.... ...1. 1...1 1...1 ..... ..... ..... ....."
    ∷ codes "1111. ..1.. .111. .1111 11111 ..... ..... ....."
    ∷ codes "1...1 .1... 1...1 ....1 ..... ..... ..... ....."
    ∷ codes "1...1 .1... 1...1 ...1. ..... ..... .11.. ....."
    ∷ codes ".111. .1... .111. .11.. ..... 11111 .11.. ....."
    ∷ [])

-- the glyphs of the alphabet in turn, each as its seven rows
unfoldable pub glyph_rows : List (List ℕ)
glyph_rows =
    letters_a_to_h ++ letters_i_to_p ++ letters_q_to_x ++ y_z_and_0_to_5 ++ digits_6_to_9_and_signs

-- the place of a character in the alphabet
abbrev pub place_of : ℕ → Option ℕ
place_of c = position (λ character. character == c) alphabet

-- the rows that a table of glyphs has for a character: those at its place
abbrev pub rows_at : List (List ℕ) → ℕ → Option (List ℕ)
rows_at glyphs c = option_and_then (slice_get glyphs) (place_of c)
