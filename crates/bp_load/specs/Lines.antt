-- The lines of a load file.
use Rattle.std.specs.Prelude.{ℕ, List, [], ◌∷◌, length, drop, filter, nat_eq, ◌==◌, not, if◌then◌else◌, Option, Result}
use Rattle.std.specs.List.{starts_with}
use Rattle.std.specs.Str.Lines.{lines}
use Rattle.bp_core.specs.declared.rules.Rule.{Rule}
use Rattle.bp_core.specs.declared.rules.RuleKind.{RuleKind}
use Rattle.bp_core.specs.InTurn.{read_each}
use Rattle.bp_core.specs.Rules.{rule_at_line}

-- U+FEFF in UTF-8, the mark that may stand at the head of a file (RFC 3629, section 6)
abbrev pub byte_order_mark : List ℕ
byte_order_mark = 0xEF ∷ 0xBB ∷ 0xBF ∷ []

-- the file without the mark at its head, if it has one
abbrev pub without_mark : List ℕ → List ℕ
without_mark bytes = if starts_with nat_eq bytes byte_order_mark then drop 3 bytes else bytes

-- the lines that aren't empty; a line ends in LF or CR LF, the last may lack its end, and any other
-- CR is part of it
abbrev pub filled_lines : List ℕ → List (List ℕ)
filled_lines bytes = filter (λ line. not (length line == 0)) (lines bytes)

-- what is read in each line, counted from n, or the rule with the number of the first line in
-- which nothing is
abbrev pub each_line :
    {V : Type 0} → (List ℕ → Option V) → RuleKind → ℕ → List (List ℕ) → Result (List V) Rule
each_line read kind n lines = read_each read (rule_at_line kind) n lines
