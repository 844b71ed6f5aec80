-- The labels of the pages, as the bytes of their UTF-8: a number at the end of each, without a gap.
use Rattle.std.specs.Prelude.{ℕ, ◌+◌, ◌-◌, ◌==◌, ◌&&◌, Bool, true, List, [], ◌∷◌, length, take, encode_utf8_all, nat_le, Option, Some, None, Result, Ok, if◌then◌else◌}
use Rattle.std.specs.Char.{is_ascii_digit}
use Rattle.std.specs.List.{list_all}
use Rattle.std.specs.Option.{ok_or}
use Rattle.std.specs.Str.{bytes_eq}
use Rattle.std.specs.Str.Parse.{digits_value}
use Rattle.bp_core.specs.Rules.{check_gap_rule, rule_at_line}
use Rattle.bp_core.specs.declared.rules.Rule.{Rule}
use Rattle.bp_load.specs.declared.opt.OptLine.{OptLine}
use Rattle.bp_core.specs.declared.rules.RuleKind.TheVariants.{CheckLabel}
use Rattle.bp_check.specs.declared.labels.EndNumber.{EndNumber}
use Rattle.bp_check.specs.declared.labels.TheConstants.{MOST_LABEL_DIGITS}
use Rattle.bp_core.specs.RuleSteps.{◌>>=◌}
use Rattle.bp_check.specs.Steps.{must_pass}

-- what stands before the digits at the end of a label, how many digits there are, and their number
pub record Label : Type 0 where
  pub head : List ℕ
  pub width : ℕ
  pub number : ℕ

-- the same as the check holds it
abbrev pub label_seen : EndNumber → Label
label_seen found = record { head = found.head.now; width = found.width; number = found.number }

-- the longest run of digits at the end of a text
abbrev pub end_digits : List ℕ → List ℕ
end_digits [] = []
end_digits (c ∷ text) = if list_all is_ascii_digit (c ∷ text) then c ∷ text else end_digits text

-- the label of these digits
abbrev pub label_with : List ℕ → List ℕ → Label
label_with text digits = record {
  head = take (length text - length digits) text;
  width = length digits;
  number = digits_value 10 digits;
}

-- a text that ends in 1 to 18 digits is a label
abbrev pub label_of : List ℕ → Option Label
label_of text =
    let digits = end_digits text in
    if nat_le 1 (length digits) && nat_le (length digits) MOST_LABEL_DIGITS
    then Some (label_with text digits)
    else None

-- a label is the next one: the same text, as many digits, and the next number
abbrev pub follows : Label → Label → Bool
follows before next =
    (next.number == before.number + 1) && (next.width == before.width)
    && bytes_eq next.head before.head

-- the first label follows none
abbrev pub is_next : Option Label → Label → Bool
is_next None label = true
is_next (Some before) label = follows before label

-- the number that was due after the label before
abbrev pub number_due : Option Label → ℕ
number_due None = 0
number_due (Some before) = before.number + 1

-- at line n another number was found than was due, or the same behind another text
abbrev pub gap_rule : ℕ → Option Label → Label → Rule
gap_rule n before label = check_gap_rule n (number_due before) label.number

-- the label of line n, behind the label before
abbrev pub label_at : ℕ → Option Label → OptLine → Result Label Rule
label_at n before line = do
  label ← ok_or (label_of (encode_utf8_all line.image)) (rule_at_line CheckLabel n)
  _ ← must_pass (is_next before label) (gap_rule n before label)
  Ok label

-- the labels of the lines from line n on follow one another; or the first line whose doesn't
abbrev pub labels_from : ℕ → Option Label → List OptLine → Result (Unit {0}) Rule
labels_from n before [] = Ok tt
labels_from n before (line ∷ lines) =
    label_at n before line >>= (λ label. labels_from (n + 1) (Some label) lines)

-- the labels of all lines follow one another, from line 1 on
abbrev pub labels_of : List OptLine → Result (Unit {0}) Rule
labels_of lines = labels_from 1 None lines
