-- Worked examples of the definitions in specs/, each run by the check.
use Rattle.std.proofs.Common.{◌≡◌, true, false, refl, Ok, Err}
use Rattle.std.specs.Prelude.{codes}
use Rattle.bp_core.specs.Rules.{bates_full_rule}
use Rattle.bp_bates.specs.declared.prefixes.TheConstants.{MAX_PREFIX, MIN_WIDTH, MAX_WIDTH}
use Rattle.bp_bates.specs.Prefixes.{is_good_prefix}
use Rattle.bp_bates.specs.Spans.{largest_of, taken_of}
use Rattle.bp_bates.specs.Labels.{bates_label}

good : is_good_prefix (codes "AB-") 4 ≡ true
good = refl

twelve : is_good_prefix (codes "ABCDEFGHIJK_") 10 ≡ true
twelve = refl

thirteen : is_good_prefix (codes "ABCDEFGHIJKL_") 10 ≡ false
thirteen = refl

ends_in_one : is_good_prefix (codes "AB1") 4 ≡ false
ends_in_one = refl

dash_first : is_good_prefix (codes "-AB") 4 ≡ false
dash_first = refl

lower_case : is_good_prefix (codes "Ab") 4 ≡ false
lower_case = refl

empty : is_good_prefix (codes "") 4 ≡ false
empty = refl

three_digits : is_good_prefix (codes "AB") 3 ≡ false
three_digits = refl

eleven_digits : is_good_prefix (codes "AB") 11 ≡ false
eleven_digits = refl

ten_digits : is_good_prefix (codes "AB") 10 ≡ true
ten_digits = refl

-- the greatest number that a byte holds, and one more
widest_byte : is_good_prefix (codes "AB") 255 ≡ false
widest_byte = refl

past_a_byte : is_good_prefix (codes "AB") 256 ≡ false
past_a_byte = refl

longest_text : MAX_PREFIX ≡ 12
longest_text = refl

least_digits : MIN_WIDTH ≡ 4
least_digits = refl

most_digits : MAX_WIDTH ≡ 10
most_digits = refl

nines : largest_of 4 ≡ 9999
nines = refl

ten_nines : largest_of 10 ≡ 9999999999
ten_nines = refl

last_two : taken_of 9998 4 2 ≡ Ok (record { span = record { first = 9998; last = 9999 }; next = 10000 })
last_two = refl

one_past : taken_of 10000 4 1 ≡ Err (bates_full_rule 9999)
one_past = refl

twelfth : bates_label (codes "AB-") 4 12 ≡ codes "AB-0012"
twelfth = refl
