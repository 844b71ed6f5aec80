-- The families of a batch: documents in turn that name one first page.
use Rattle.std.specs.Prelude.{ℕ, ◌+◌, ◌==◌, Bool, false, List, [], ◌∷◌, length, Option, Some, None, Result, Ok, Err, if◌then◌else◌}
use Rattle.std.specs.Str.{bytes_eq}
use Rattle.bp_core.specs.InTurn.{onto}
use Rattle.bp_core.specs.Rules.{rule_at_line}
use Rattle.bp_core.specs.declared.rules.Rule.{Rule}
use Rattle.bp_core.specs.declared.rules.RuleKind.TheVariants.{FamilyBroken}
use Rattle.bp_import.specs.declared.records.Record.{Record}

-- the first page of the family that a record names: its own where it names none
abbrev pub family_of : Record → List ℕ
family_of doc = if length doc.attach == 0 then doc.id else doc.attach

-- the family of the document before, if there is one
abbrev pub is_family : Option (List ℕ) → List ℕ → Bool
is_family None family = false
is_family (Some before) family = bytes_eq family before

-- the place of the parent of each document, from document n on; the one before it is of this
-- family, whose parent stands at `parent`. Or the first document that is neither a parent nor of
-- that family
abbrev pub parents_from : ℕ → Option (List ℕ) → ℕ → List Record → Result (List ℕ) Rule
parents_from n before parent [] = Ok []
parents_from n before parent (doc ∷ docs) =
    let family = family_of doc in
    if bytes_eq family doc.id then onto n (parents_from (n + 1) (Some family) n docs)
    else (if is_family before family
    then onto parent (parents_from (n + 1) (Some family) parent docs)
    else Err (rule_at_line FamilyBroken n))

-- the parent of each record, or the first rule
abbrev pub parents_of : List Record → Result (List ℕ) Rule
parents_of docs = parents_from 1 None 0 docs
