-- The prefix of a label: a text, and the number of digits after it.
use Rattle.std.specs.Prelude.{ℕ, Bool, List, length, slice_index, nat_le, ◌-◌, ◌&&◌, ◌||◌, ◌==◌, not}
use Rattle.std.specs.List.{list_all}
use Rattle.bp_core.specs.Characters.{hyphen, digit_zero, digit_nine, letter_a, letter_z, low_line}
use Rattle.bp_bates.specs.declared.prefixes.TheConstants.{MAX_PREFIX, MIN_WIDTH, MAX_WIDTH}

-- 0-9
abbrev pub is_digit : ℕ → Bool
is_digit c = nat_le digit_zero c && nat_le c digit_nine

-- A-Z, 0-9, '-' or '_'
abbrev pub is_allowed : ℕ → Bool
is_allowed c =
    (nat_le letter_a c && nat_le c letter_z) || is_digit c || (c == hyphen) || (c == low_line)

-- 1 to 12 allowed characters, the first not '-' and the last not a digit
abbrev pub is_good_text : List ℕ → Bool
is_good_text text =
    list_all is_allowed text
    && nat_le 1 (length text) && nat_le (length text) MAX_PREFIX
    && not (slice_index text 0 == hyphen)
    && not (is_digit (slice_index text (length text - 1)))

-- a good text, and 4 to 10 digits
abbrev pub is_good_prefix : List ℕ → ℕ → Bool
is_good_prefix text width =
    nat_le MIN_WIDTH width && nat_le width MAX_WIDTH && is_good_text text
