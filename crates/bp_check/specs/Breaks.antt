-- Where documents begin and end among the lines of an OPT file, and their records.
use Rattle.std.specs.Prelude.{ℕ, ◌+◌, ◌==◌, ◌&&◌, Bool, false, not, List, [], ◌∷◌, length, Result, Err, if◌then◌else◌}
use Rattle.std.specs.Str.{bytes_eq}
use Rattle.bp_core.specs.Rules.{rule_at_line}
use Rattle.bp_core.specs.declared.rules.Rule.{Rule}
use Rattle.bp_load.specs.Documents.{docs_after}
use Rattle.bp_load.specs.declared.opt.OptLine.{OptLine}
use Rattle.bp_core.specs.declared.rules.RuleKind.TheVariants.{CheckBreaks}
use Rattle.bp_check.specs.Steps.{must_pass}
use Rattle.bp_check.specs.declared.records.Record.{Record}

-- the last image id of the document that goes on behind a line
abbrev pub last_image : OptLine → List OptLine → List ℕ
last_image line [] = line.image
last_image line (next ∷ lines) = if next.doc_break then line.image else last_image next lines

-- the document that begins at a line has the first record that is left: its first and its last
-- image id are the record's
abbrev pub has_record : List Record → OptLine → List OptLine → Bool
has_record [] line lines = false
has_record (doc ∷ docs) line lines =
    bytes_eq doc.first line.image && bytes_eq doc.last (last_image line lines)

-- line n, before others, begins the document that is due, or goes on with the one before; the first
-- line has none to go on with
abbrev pub fits : ℕ → List Record → OptLine → List OptLine → Bool
fits n docs line lines = if line.doc_break then has_record docs line lines else not (n == 1)

-- lines and records go together from line n on; or the first line that doesn't fit, which is the
-- one past the last where records are left
abbrev pub breaks_from : ℕ → List Record → List OptLine → Result (Unit {0}) Rule
breaks_from n docs [] = must_pass (length docs == 0) (rule_at_line CheckBreaks n)
breaks_from n docs (line ∷ lines) =
    if fits n docs line lines
    then breaks_from (n + 1) (docs_after docs line) lines
    else Err (rule_at_line CheckBreaks n)

-- the documents of the lines are the records, from line 1 on
abbrev pub breaks_hold : List Record → List OptLine → Result (Unit {0}) Rule
breaks_hold docs lines = breaks_from 1 docs lines
