-- The matter that kept rows are of: what commands come to that read rows and no files, and which
-- rows are of two matters.
use Rattle.std.specs.Prelude.{◌≡◌, Option, Result, Ok, Err, List, [], ◌∷◌}
use Rattle.std.specs.Prelude.{IfSome}
use Rattle.bp_core.specs.declared.kept.Row.{Row}
use Rattle.bp_core.specs.declared.refusals.Refusal.TheVariants as refusals
use Rattle.bp_core.specs.declared.rules.Rule.{Rule}
use Rattle.bp_core.specs.declared.rules.RuleKind.TheVariants as kinds
use Rattle.bp_core.specs.Rules.{bare_rule}
use Rattle.bp_matter.specs.KeptRows.{rows_of}
use Rattle.bp_matter.specs.Matter.{Matter}
use Rattle.bp_matter.specs.ReadTables.{ReadsTables}
use Rattle.bp_matter.specs.Valid.{IsValid}
use Rattle.bp_rules.specs.Loading.{IsLoadRule}
use Rattle.bp_cli.specs.Endings.{Outcome}

-- the valid matter that these rows are kept for; or the first rule: there is no row, or no valid
-- matter has these
abbrev pub MatterAnswers : List Row → Result Matter Rule → Type 0
MatterAnswers [] answer = answer ≡ Err (bare_rule kinds.NoMatter)
MatterAnswers (row ∷ rows) (Ok m) = IsValid m × (row ∷ rows ≡ rows_of m)
MatterAnswers (row ∷ rows) (Err rule) = ReadsTables (row ∷ rows) (Err (refusals.Rule rule))

-- what loading any rows may come to: a valid matter, or a rule that loading may break
abbrev pub CanBeLoaded : Result Matter Rule → Type 0
CanBeLoaded (Ok m) = IsValid m
CanBeLoaded (Err rule) = IsLoadRule rule.kind

-- the outcome that the matter of the rows gives which are told, or, where none are, a matter or a
-- rule that loading may come to
pub record RowsOutcome (gives : Result Matter Rule → Outcome) (rows : Option (List Row))
    (outcome : Outcome) : Type 0 where
  pub tables : Result Matter Rule
  pub loaded : CanBeLoaded tables
  pub kept : IfSome rows (λ there. MatterAnswers there tables)
  pub given : gives tables ≡ outcome

-- the outcome that any rows give which are told, or, where none are, some rows
pub record FirstOutcome (gives : List Row → Outcome) (told : Option (List Row))
    (outcome : Outcome) : Type 0 where
  pub rows : List Row
  pub same : IfSome told (λ there. rows ≡ there)
  pub given : gives rows ≡ outcome

-- the rows are those of two valid matters of which this holds
pub record OfTwo (P : Matter → Matter → Type 0) (rows rows' : List Row) : Type 0 where
  pub one : Matter
  pub two : Matter
  pub valid : IsValid one
  pub valid' : IsValid two
  pub kept : rows ≡ rows_of one
  pub kept' : rows' ≡ rows_of two
  pub holds : P one two
