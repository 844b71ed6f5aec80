-- Loading the tables of a matter from their keeper.
use Rattle.std.specs.Prelude.{◌≡◌, ℕ, List, [], ◌∷◌, Result, Ok, Err, IfSome}
use Rattle.bp_core.specs.Counts.{risen}
use Rattle.bp_core.specs.Rules.{bare_rule}
use Rattle.bp_core.specs.declared.kept.Row.{Row}
use Rattle.bp_core.specs.declared.refusals.Refusal.TheVariants as refusals
use Rattle.bp_core.specs.declared.rules.RuleKind.{RuleKind}
use Rattle.bp_core.specs.declared.rules.RuleKind.TheVariants.{KeptRowBad, NoMatter}
use Rattle.bp_keep.specs.Keeper.{KeeperView, SameRows}
use Rattle.bp_matter.specs.KeptRows.{rows_of}
use Rattle.bp_matter.specs.Matter.{Matter, Shown}
use Rattle.bp_matter.specs.ReadTables.{ReadsTables}
use Rattle.bp_matter.specs.Valid.{IsValid}
use Rattle.bp_rules.specs.declared.refusals.MatterRefusal.{MatterRefusal}
use Rattle.bp_rules.specs.declared.refusals.MatterRefusal.TheVariants as loads

-- where the rows are those of a valid matter, it is this one
abbrev pub OnlyFor : List Row → Matter → Type 0
OnlyFor rows m = (other : Matter) → IsValid other → rows ≡ rows_of other → m ≡ other

-- what is loaded from these rows: the tables that they are kept for; NoMatter exactly where there
-- is no row, and else the rule that reading them breaks
abbrev pub LoadedFrom : List Row → Result Shown MatterRefusal → Type 0
LoadedFrom [] (Ok tables) = ⊥
LoadedFrom [] (Err (loads.Rule rule)) = rule ≡ bare_rule NoMatter
LoadedFrom (row ∷ rows) (Ok tables) =
    (row ∷ rows ≡ rows_of tables.matter) × OnlyFor (row ∷ rows) tables.matter
LoadedFrom (row ∷ rows) (Err (loads.Rule rule)) =
    ReadsTables (row ∷ rows) (Err (refusals.Rule rule))
LoadedFrom rows (Err loads.KeeperFault) = Unit {0}
LoadedFrom rows (Err loads.OutOfMemory) = Unit {0}

-- the rules that loading may break, whatever rows the keeper has
abbrev pub IsLoadRule : RuleKind → Type 0
IsLoadRule NoMatter = Unit {0}
IsLoadRule KeptRowBad = Unit {0}
IsLoadRule _ = ⊥

-- a rule that loading breaks is one of these
abbrev pub HasLoadRule : Result Shown MatterRefusal → Type 0
HasLoadRule (Err (loads.Rule rule)) = IsLoadRule rule.kind
HasLoadRule _ = Unit {0}

-- only a fault of the keeper raises its count
abbrev pub faults_loaded : ℕ → Result Shown MatterRefusal → ℕ
faults_loaded faults (Err loads.KeeperFault) = risen faults
faults_loaded faults _ = faults

-- loading gave this, by the rows that are told as it ends, and left the rows. The keeper was asked
-- once, and for nothing else
pub record LoadsTables (before : KeeperView) (result : Result Shown MatterRefusal)
    (after : KeeperView) : Type 0 where
  pub told_after : IfSome after.rows (λ rows. LoadedFrom rows result)
  pub rule : HasLoadRule result
  pub same : SameRows before.rows after.rows
  pub faults : after.faults ≡ faults_loaded before.faults result
  pub loads : after.loads ≡ risen before.loads
  pub commits : after.commits ≡ before.commits
  pub sure : after.sure ≡ before.sure
