-- Numbers in decimal digits, as files, command lines and requests write them.
use Rattle.std.specs.Prelude.{ℕ, Bool, not, ◌&&◌, ◌||◌, ◌==◌, nat_le, List, length, slice_index, Option, Some, None, if◌then◌else◌}
use Rattle.std.specs.Char.{is_ascii_digit}
use Rattle.std.specs.List.{list_all}
use Rattle.std.specs.Str.Parse.{digits_value}
use Rattle.bp_core.specs.Characters.{digit_zero}
use Rattle.bp_core.specs.declared.digits.TheConstants.{MOST_DIGITS}

-- 1 to 9 digits, with leading zeros or without
abbrev pub are_digits : List ℕ → Bool
are_digits text =
    nat_le 1 (length text) && nat_le (length text) MOST_DIGITS
    && list_all is_ascii_digit text

-- the number that they write
abbrev pub number_in : List ℕ → Option ℕ
number_in text = if are_digits text then Some (digits_value 10 text) else None

-- the first digit is 0
abbrev pub begins_with_zero : List ℕ → Bool
begins_with_zero text = slice_index text 0 == digit_zero

-- no zero stands before another digit
abbrev pub is_unpadded : List ℕ → Bool
is_unpadded text = length text == 1 || not (begins_with_zero text)

-- a number without a leading zero: `0`, or 1 to 9 digits of which the first isn't 0
abbrev pub unpadded_in : List ℕ → Option ℕ
unpadded_in text = if is_unpadded text then number_in text else None

-- a number from 1 on: 1 to 9 digits of which the first isn't 0
abbrev pub ordinal_in : List ℕ → Option ℕ
ordinal_in text = if begins_with_zero text then None else number_in text
