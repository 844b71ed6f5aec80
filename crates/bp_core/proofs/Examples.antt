-- Worked examples of the definitions in specs/, each run by the check.
use Rattle.std.proofs.Common.{◌≡◌, ℕ, true, false, List, Option, Some, None, [], ◌∷◌, ◌++◌, refl}
use Rattle.std.specs.Prelude.{codes}
use Rattle.std.specs.Fmt.{digits}
use Rattle.bp_core.specs.declared.calls.Calls.{Calls}
use Rattle.bp_core.specs.declared.digits.TheConstants.{MOST_DIGITS}
use Rattle.bp_core.specs.declared.rectangle.Rect.{Rect}
use Rattle.bp_core.specs.declared.rules.RuleKind.TheVariants as kinds
use Rattle.bp_core.specs.declared.refusals.Refusal.TheVariants as refusals
use Rattle.bp_core.specs.declared.review.Basis.TheVariants.{Ts}
use Rattle.bp_core.specs.Characters.{full_stop, reverse_solidus}
use Rattle.bp_core.specs.Paths.{path_in}
use Rattle.bp_core.specs.Differing.{all_differ, texts_differ}
use Rattle.bp_core.specs.Digits.{number_in, ordinal_in, unpadded_in}
use Rattle.bp_core.specs.OptionSteps.{◌>>=◌}
use Rattle.bp_core.specs.Refusals.{bare_refusal}
use Rattle.bp_core.specs.Calls.{after_call, is_sure, next_fails, no_calls}
use Rattle.bp_core.specs.Counts.{risen}
use Rattle.bp_core.specs.Rectangle.{has_pixel, lies_inside, touches}
use Rattle.bp_core.specs.Review.{basis_code}
use Rattle.bp_core.specs.Sorted.{two_keys, row_key, ascends, find_key, put, without}
use Rattle.bp_core.specs.Rules.{rule_text, bare_rule, rule_at_line, page_limit_rule, bates_full_rule}
use Rattle.bp_core.specs.Rules.{rule_naming, rule_naming_both, rule_with_line, check_gap_rule, not_listed_rule, not_produced_rule, notice_twice_rule}

-- columns 10 to 29 of rows 2 to 11
abbrev box : Rect
box = record { left = 10; top = 2; width = 20; height = 10 }

-- columns 1 to 8 of row 0
abbrev line : Rect
line = record { left = 1; top = 0; width = 8; height = 1 }

-- the largest side on a page of the largest width: the sum passes 2^32
abbrev far : Rect
far = record { left = 1; top = 0; width = 4294967295; height = 1 }

first_pixel : has_pixel box 2 10 ≡ true
first_pixel = refl

last_pixel : has_pixel box 11 29 ≡ true
last_pixel = refl

right_of_it : has_pixel box 11 30 ≡ false
right_of_it = refl

below_it : has_pixel box 12 29 ≡ false
below_it = refl

left_of_it : has_pixel box 2 9 ≡ false
left_of_it = refl

above_it : has_pixel box 1 10 ≡ false
above_it = refl

just_inside : lies_inside line 9 1 ≡ true
just_inside = refl

outside : lies_inside line 8 1 ≡ false
outside = refl

no_wrap : lies_inside far 4294967295 1 ≡ false
no_wrap = refl

-- a word that shares the first column of the box, and one that begins where the box ends
abbrev dear : Rect
dear = record { left = 5; top = 2; width = 6; height = 10 }

abbrev john : Rect
john = record { left = 30; top = 2; width = 20; height = 10 }

-- no pixel, in the middle of the box
abbrev nothing : Rect
nothing = record { left = 15; top = 5; width = 0; height = 3 }

shared_column : touches box dear ≡ true
shared_column = refl

next_to_it : touches box john ≡ false
next_to_it = refl

empty_inside : touches box nothing ≡ false
empty_inside = refl

over_the_end : touches far line ≡ true
over_the_end = refl

trade_secret : basis_code Ts ≡ codes "TS"
trade_secret = refl

printed : rule_text (bare_rule kinds.BoxOutside) ≡ codes "13 BoxOutside 0 0 0"
unfolding digits
printed = refl

line_printed : rule_text (rule_at_line kinds.OptShape 7) ≡ codes "53 OptShape 7 0 0"
unfolding digits
line_printed = refl

sides_printed : rule_text (page_limit_rule 20001 9) ≡ codes "62 PageLimit 0 20001 9"
unfolding digits
sides_printed = refl

largest_printed : rule_text (bates_full_rule 9999) ≡ codes "31 BatesFull 0 9999 0"
unfolding digits
largest_printed = refl

tag_printed : rule_text (rule_naming kinds.TiffMeaning 274) ≡ codes "85 TiffMeaning 0 274 0"
unfolding digits
tag_printed = refl

limit_printed : rule_text (rule_naming_both kinds.MatterFull 2 20001) ≡ codes "35 MatterFull 0 2 20001"
unfolding digits
limit_printed = refl

page_printed : rule_text (rule_with_line (page_limit_rule 20001 9) 3) ≡ codes "62 PageLimit 3 20001 9"
unfolding digits
page_printed = refl

gap_printed : rule_text (check_gap_rule 2 5 3) ≡ codes "112 CheckGap 2 5 3"
unfolding digits
gap_printed = refl

unlisted_printed : rule_text (not_listed_rule 4) ≡ codes "117 NotListed 0 4 0"
unfolding digits
unlisted_printed = refl

unproduced_printed : rule_text (not_produced_rule 1 3) ≡ codes "122 NotProduced 1 3 0"
unfolding digits
unproduced_printed = refl

twice_printed : rule_text (notice_twice_rule 2 1) ≡ codes "123 NoticeTwice 2 1 0"
unfolding digits
twice_printed = refl

no_production : bare_refusal kinds.NoProduction ≡ refusals.Rule (record { kind = kinds.NoProduction; line = 0; a = 0; b = 0 })
no_production = refl

-- a path keeps its parts but `.`, with a solidus between
path_kept : path_in (codes "a/./b") ≡ Some (codes "a/b")
path_kept = refl

path_turned : path_in (full_stop ∷ reverse_solidus ∷ codes "a" ++ reverse_solidus ∷ codes "b.tif") ≡ Some (codes "a/b.tif")
path_turned = refl

path_ended : path_in (codes "a/.") ≡ Some (codes "a")
path_ended = refl

dots_in_names : path_in (codes "a.b/.../a..b") ≡ Some (codes "a.b/.../a..b")
dots_in_names = refl

-- and names none where a part is empty or leads out, where it has a colon, and where no part is left
at_the_front : path_in (codes "/a") ≡ None
at_the_front = refl

at_the_end : path_in (codes "a/") ≡ None
at_the_end = refl

two_slashes : path_in (codes "a//b") ≡ None
two_slashes = refl

leads_out : path_in (codes "a/../b") ≡ None
leads_out = refl

with_colon : path_in (codes "C:" ++ reverse_solidus ∷ codes "a") ≡ None
with_colon = refl

dots_alone : path_in (codes "./.") ≡ None
dots_alone = refl

no_text : path_in [] ≡ None
no_text = refl

-- lists in order of key: of numbers that are their own keys
abbrev itself : ℕ → ℕ
itself n = n

abbrev three : List ℕ
three = 3 ∷ 5 ∷ 8 ∷ []

rising : ascends itself 3 three ≡ true
rising = refl

a_key_twice : ascends itself 0 (3 ∷ 3 ∷ []) ≡ false
a_key_twice = refl

below_the_start : ascends itself 4 three ≡ false
below_the_start = refl

found : find_key itself 5 three ≡ Some 5
found = refl

not_there : find_key itself 4 three ≡ None
not_there = refl

put_between : put itself 4 three ≡ 3 ∷ 4 ∷ 5 ∷ 8 ∷ []
put_between = refl

put_at_the_end : put itself 9 three ≡ 3 ∷ 5 ∷ 8 ∷ 9 ∷ []
put_at_the_end = refl

put_over : put itself 5 three ≡ three
put_over = refl

taken_away : without itself 5 three ≡ 3 ∷ 8 ∷ []
taken_away = refl

-- document 1, page 2, and its row of kind 4
page_two : two_keys 1 2 ≡ 4294967298
page_two = refl

page_two_kept : row_key (record { kind = 4; k1 = 1; k2 = 2; body = [] }) ≡ 73786976299133173762
page_two_kept = refl

-- counts
first : risen 0 ≡ 1
first = refl

last : risen 18446744073709551614 ≡ 18446744073709551615
last = refl

stands_still : risen 18446744073709551615 ≡ 18446744073709551615
stands_still = refl

-- calls 1 and 3 are to fail
abbrev calls : Calls
calls = no_calls (3 ∷ 1 ∷ [])

call_0 : next_fails calls ≡ false
call_0 = refl

call_1 : next_fails (after_call calls) ≡ true
call_1 = refl

call_2 : next_fails (after_call (after_call calls)) ≡ false
call_2 = refl

not_sure : is_sure calls 0 ≡ false
not_sure = refl

sure : is_sure (no_calls []) 0 ≡ true
sure = refl

-- rows that are told apart by a text, and texts by themselves
abbrev twins : List (List ℕ)
twins = codes "AC" ∷ codes "WP" ∷ codes "AC" ∷ []

no_twins : texts_differ (codes "AC" ∷ codes "ac" ∷ codes "A" ∷ [] ∷ []) ≡ true
no_twins = refl

first_and_last : texts_differ twins ≡ false
first_and_last = refl

told_apart : all_differ (λ n. n ∷ []) three ≡ true
told_apart = refl

told_by_nothing : all_differ (λ _. []) three ≡ false
told_by_nothing = refl

-- numbers in digits
most_digits : MOST_DIGITS ≡ 9
most_digits = refl

greatest : number_in (codes "999999999") ≡ Some 999999999
greatest = refl

ten_digits : number_in (codes "0000000001") ≡ None
ten_digits = refl

no_digit : number_in [] ≡ None
no_digit = refl

with_a_sign : number_in (codes "+7") ≡ None
with_a_sign = refl

padded : number_in (codes "0070") ≡ Some 70
padded = refl

never_padded : unpadded_in (codes "0070") ≡ None
never_padded = refl

zero_unpadded : unpadded_in (codes "0") ≡ Some 0
zero_unpadded = refl

two_zeros : unpadded_in (codes "00") ≡ None
two_zeros = refl

unpadded : unpadded_in (codes "70") ≡ Some 70
unpadded = refl

never_zeroth : ordinal_in (codes "0") ≡ None
never_zeroth = refl

seventieth : ordinal_in (codes "70") ≡ Some 70
seventieth = refl

never_padded_either : ordinal_in (codes "07") ≡ None
never_padded_either = refl

-- steps of which each may find nothing
abbrev both : Option ℕ → Option ℕ → Option ℕ
both one two = do
  found ← one
  _ ← two
  Some found

each_found : both (ordinal_in (codes "7")) (number_in (codes "0")) ≡ Some 7
each_found = refl

one_found : both (ordinal_in (codes "7")) (ordinal_in (codes "0")) ≡ None
one_found = refl
