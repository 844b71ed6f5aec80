-- Numbers in the head of a request: 1 to 9 digits.
use Rattle.std.specs.Prelude.{ℕ, Bool, ◌&&◌, not, List, Option}
use Rattle.bp_core.specs.Digits.{are_digits, begins_with_zero, number_in}

-- the number that 1 to 9 digits write, with leading zeros or without
abbrev pub number_of : List ℕ → Option ℕ
number_of digits = number_in digits

-- in a path the first digit is not 0
abbrev pub is_path_number : List ℕ → Bool
is_path_number digits = are_digits digits && not (begins_with_zero digits)
