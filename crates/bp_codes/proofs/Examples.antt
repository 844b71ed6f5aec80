-- Worked examples of the definitions in specs/, each run by the check.
use Rattle.std.proofs.Common.{◌≡◌, [], ◌∷◌, Ok, Err, length, drop, refl}
use Rattle.std.specs.Prelude.{codes, slice_index_or}
use Rattle.bp_codes.specs.declared.code.NoCode.TheVariants.{Ends, Strange}
use Rattle.bp_codes.specs.declared.span.Fill.TheVariants.{High, Low}
use Rattle.bp_codes.specs.declared.span.TheConstants.{AHEAD}
use Rattle.bp_codes.specs.Bits.{byte_bits, bits_of, code_bits, code_of_bits}
use Rattle.bp_codes.specs.CodeLists.{white_codes, black_codes, mode_codes, end_of_block, bits_in_print}
use Rattle.bp_codes.specs.NextCode.{next_row}

-- 0x1A is 00011010
high_bits : byte_bits High 26 ≡ bits_in_print (codes "00011010")
high_bits = refl

low_bits : byte_bits Low 26 ≡ bits_in_print (codes "01011000")
low_bits = refl

two_bytes : bits_of High (1 ∷ 128 ∷ []) ≡ bits_in_print (codes "0000000110000000")
two_bytes = refl

-- a word holds as many bits of a look-ahead, whatever bit of a byte it begins at
bits_ahead : AHEAD ≡ 57
bits_ahead = refl

-- the code of 14 white pixels, 110100
fourteen : code_of_bits (slice_index_or white_codes 14 []) ≡ record { bits = 52; len = 6 }
unfolding white_codes
fourteen = refl

its_bits : code_bits (record { bits = 5; len = 4 }) ≡ bits_in_print (codes "0101")
its_bits = refl

-- each run table has 64, 27 and 13 rows, and the modes are nine
white_rows : length white_codes ≡ 104
unfolding white_codes
white_rows = refl

black_rows : length black_codes ≡ 104
unfolding black_codes
black_rows = refl

mode_rows : length mode_codes ≡ 9
unfolding mode_codes
mode_rows = refl

-- the last row of both run tables is the make-up code of 2560
last_white : slice_index_or white_codes 103 [] ≡ bits_in_print (codes "000000011111")
unfolding white_codes
last_white = refl

last_black : slice_index_or black_codes 103 [] ≡ bits_in_print (codes "000000011111")
unfolding black_codes
last_black = refl

-- no white code begins with eight zeros
eight_zeros : next_row white_codes (bits_of High (0 ∷ [])) ≡ Err Strange
unfolding white_codes
eight_zeros = refl

seven_zeros : next_row white_codes (drop 1 (bits_of High (0 ∷ []))) ≡ Err Ends
unfolding white_codes
seven_zeros = refl

nothing : next_row black_codes [] ≡ Err Ends
unfolding black_codes
nothing = refl

run_14 : next_row white_codes (bits_of High (208 ∷ [])) ≡ Ok 14
unfolding white_codes
run_14 = refl

run_31 : next_row white_codes (bits_of High (26 ∷ [])) ≡ Ok 31
unfolding white_codes
run_31 = refl

run_29 : next_row white_codes (bits_of High (2 ∷ [])) ≡ Ok 29
unfolding white_codes
run_29 = refl

run_30 : next_row white_codes (bits_of High (3 ∷ [])) ≡ Ok 30
unfolding white_codes
run_30 = refl

run_11 : next_row white_codes (bits_of Low (2 ∷ [])) ≡ Ok 11
unfolding white_codes
run_11 = refl

-- a black run of 2 is 11, whatever follows
black_two : next_row black_codes (bits_in_print (codes "1101")) ≡ Ok 2
unfolding black_codes
black_two = refl

-- neither an extension nor the end of a block is a mode; five zeros may yet become VR3 or VL3, six are in no mode
an_extension : next_row mode_codes (bits_in_print (codes "0000001")) ≡ Err Strange
unfolding mode_codes
an_extension = refl

a_block_end : next_row mode_codes end_of_block ≡ Err Strange
unfolding mode_codes
a_block_end = refl

five_zeros : next_row mode_codes (bits_in_print (codes "00000")) ≡ Err Ends
unfolding mode_codes
five_zeros = refl

six_zeros : next_row mode_codes (bits_in_print (codes "000000")) ≡ Err Strange
unfolding mode_codes
six_zeros = refl
