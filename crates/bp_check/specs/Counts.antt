-- How many pages the load files say that each document has.
use Rattle.std.specs.Prelude.{ℕ, ◌+◌, ◌==◌, ◌&&◌, ◌||◌, Bool, true, List, [], ◌∷◌, length, encode_utf8_all, Result, Ok, Err, if◌then◌else◌}
use Rattle.std.specs.Fmt.{decimal}
use Rattle.std.specs.Str.{bytes_eq}
use Rattle.bp_core.specs.Characters.{digit_zero}
use Rattle.bp_core.specs.Rules.{rule_at_line}
use Rattle.bp_core.specs.declared.rules.Rule.{Rule}
use Rattle.bp_load.specs.Documents.{docs_after, until_break}
use Rattle.bp_load.specs.declared.opt.OptLine.{OptLine}
use Rattle.bp_core.specs.declared.rules.RuleKind.TheVariants.{CheckCount}
use Rattle.bp_check.specs.declared.records.Record.{Record}

-- a text without the zeros at its front
abbrev pub without_zeros : List ℕ → List ℕ
without_zeros [] = []
without_zeros (c ∷ text) = if c == digit_zero then without_zeros text else c ∷ text

-- a text says nothing, or this number other than 0, with leading zeros or without
abbrev pub says_number : List ℕ → ℕ → Bool
says_number text n =
    (length text == 0) || bytes_eq (without_zeros (encode_utf8_all text)) (decimal n)

-- a text says nothing, or is this number in decimal
abbrev pub is_decimal : List ℕ → ℕ → Bool
is_decimal text n = (length text == 0) || bytes_eq (encode_utf8_all text) (decimal n)

-- the first record that is left says so many pages, or nothing
abbrev pub record_says : List Record → ℕ → Bool
record_says [] n = true
record_says (doc ∷ docs) n = is_decimal doc.pages n

-- the line of a break, and its record, say how many lines its document has; another line says nothing
abbrev pub is_counted : List Record → OptLine → List OptLine → Bool
is_counted docs line lines =
    if line.doc_break
    then says_number line.pages (until_break lines + 1) && record_says docs (until_break lines + 1)
    else length line.pages == 0

-- all lines from line n on are counted, or the first that isn't
abbrev pub counts_from : ℕ → List Record → List OptLine → Result (Unit {0}) Rule
counts_from n docs [] = Ok tt
counts_from n docs (line ∷ lines) =
    if is_counted docs line lines
    then counts_from (n + 1) (docs_after docs line) lines
    else Err (rule_at_line CheckCount n)

-- all lines are counted, from line 1 on
abbrev pub counts_of : List Record → List OptLine → Result (Unit {0}) Rule
counts_of docs lines = counts_from 1 docs lines
