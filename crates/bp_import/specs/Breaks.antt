-- Where documents begin among the lines of an OPT file.
use Rattle.std.specs.Prelude.{ℕ, ◌+◌, ◌==◌, ◌||◌, Bool, false, not, List, [], ◌∷◌, ◌++◌, length, take, drop, is_some, Option, Some, None, Result, Err, if◌then◌else◌}
use Rattle.std.specs.Option.{option_map}
use Rattle.std.specs.Str.{bytes_eq}
use Rattle.bp_core.specs.Rules.{rule_at_line}
use Rattle.bp_core.specs.declared.rules.Rule.{Rule}
use Rattle.bp_core.specs.declared.rules.RuleKind.TheVariants.{DocBreaks}
use Rattle.bp_load.specs.Documents.{docs_after, until_break}
use Rattle.bp_load.specs.declared.opt.OptLine.{OptLine}
use Rattle.bp_import.specs.Steps.{demanded}
use Rattle.bp_import.specs.declared.records.Record.{Record}

-- which of these lines has an image id, counted from 0
abbrev pub place_of : List ℕ → List OptLine → Option ℕ
place_of image [] = None
place_of image (line ∷ lines) =
    if bytes_eq line.image image then Some 0 else option_map (λ k. k + 1) (place_of image lines)

-- the line begins the document of the first record that is left
abbrev pub begins : List Record → OptLine → Bool
begins [] line = false
begins (doc ∷ docs) line = bytes_eq doc.id line.image

-- a line behind others, with these records left, isn't as it is to be: its image id repeats one, it
-- has a break and begins no document that is due, or it is the first and has none
abbrev pub is_broken : List OptLine → List Record → OptLine → Bool
is_broken before docs line =
    is_some (place_of line.image before)
    || (if line.doc_break then not (begins docs line) else length before == 0)

-- the rule at the line behind these
abbrev pub broken_behind : List OptLine → Rule
broken_behind before = rule_at_line DocBreaks (length before + 1)

-- breaks and records go together in the lines behind others; or the first line that is broken,
-- which is the one past the last where records are left
abbrev pub breaks_behind : List OptLine → List Record → List OptLine → Result (Unit {0}) Rule
breaks_behind before docs [] = demanded (length docs == 0) (broken_behind before)
breaks_behind before docs (line ∷ lines) =
    if is_broken before docs line
    then Err (broken_behind before)
    else breaks_behind (before ++ line ∷ []) (docs_after docs line) lines

-- the document breaks of the OPT lines are the records of the DAT
abbrev pub breaks_of : List Record → List OptLine → Result (Unit {0}) Rule
breaks_of docs lines = breaks_behind [] docs lines

-- how many pages each document has: that of its break, and those up to the next
abbrev pub page_counts : List OptLine → List ℕ
page_counts [] = []
page_counts (line ∷ lines) =
    if line.doc_break then (until_break lines + 1) ∷ page_counts lines else page_counts lines

-- a list cut into pieces of these lengths
abbrev pub cut : {P : Type 0} → List ℕ → List P → List (List P)
cut [] pages = []
cut (count ∷ counts) pages = take count pages ∷ cut counts (drop count pages)
