-- Steps: what a matter and its keeper are after one.
use Rattle.std.specs.Prelude.{◌≡◌, ◌≢◌, ℕ, [], List, Option, Some, Result, Ok, Err, IfSome, IsOkAnd}
use Rattle.std.specs.Option.{option_map}
use Rattle.bp_core.specs.Counts.{risen}
use Rattle.bp_core.specs.declared.kept.Row.{Row}
use Rattle.bp_keep.specs.Keeper.{KeeperView}
use Rattle.bp_keep.specs.Puts.{put_all}
use Rattle.bp_keep.specs.declared.refusals.KeepRefusal.{KeepRefusal}
use Rattle.bp_keep.specs.declared.refusals.KeepRefusal.TheVariants as keeps
use Rattle.bp_matter.specs.Batches.{BatchShown}
use Rattle.bp_matter.specs.KeptRows.{rows_of}
use Rattle.bp_matter.specs.Matter.{Matter}
use Rattle.bp_matter.specs.declared.calls.Call.{Call}
use Rattle.bp_matter.specs.declared.calls.Reply.{Reply}
use Rattle.bp_rules.specs.Changes.{after, puts_of}
use Rattle.bp_rules.specs.Importing.{import_of}
use Rattle.bp_rules.specs.Stepping.{step_of}
use Rattle.bp_rules.specs.declared.changes.Edit.{Edit}
use Rattle.bp_rules.specs.declared.decide_imports.Imported.{Imported}
use Rattle.bp_rules.specs.declared.steps.Counted.{Counted}
use Rattle.bp_rules.specs.declared.refusals.MatterRefusal.{MatterRefusal}
use Rattle.bp_rules.specs.declared.refusals.MatterRefusal.TheVariants as stops

-- the rows of a keeper, if it tells them, are those of the matter
abbrev pub KeepsRows : KeeperView → Matter → Type 0
KeepsRows keeper m = IfSome keeper.rows (λ rows. rows ≡ rows_of m)

-- a count rose once, or not at all
pub data AtMostOnce (before now : ℕ) : Type 0 where
  never : now ≡ before → AtMostOnce before now
  once : now ≡ risen before → AtMostOnce before now

-- the rows that are told now were told before, and are those with the puts of a change
abbrev pub PutsMade : Option (List Row) → Edit → Option (List Row) → Type 0
PutsMade before edit now =
    IfSome now (λ rows. option_map (put_all (puts_of edit)) before ≡ Some rows)

-- a change was made: its puts are made of whatever rows, so a keeper that kept the matter keeps
-- the matter after it. All were committed at once
pub record Made (m : Matter) (keeper : KeeperView) (edit : Edit) (m' : Matter)
    (keeper' : KeeperView) : Type 0 where
  pub matter : m' ≡ after m edit
  pub puts : PutsMade keeper.rows edit keeper'.rows
  pub kept : KeepsRows keeper m → KeepsRows keeper' m'
  pub faults : keeper'.faults ≡ keeper.faults
  pub loads : keeper'.loads ≡ keeper.loads
  pub commits : AtMostOnce keeper.commits keeper'.commits
  pub sure : keeper'.sure ≡ keeper.sure

-- nothing was changed, but that the keeper's count of faults is this one and that it may have been
-- asked to commit once
pub record Stays (m : Matter) (keeper : KeeperView) (count : ℕ) (m' : Matter)
    (keeper' : KeeperView) : Type 0 where
  pub matter : m' ≡ m
  pub rows : IfSome keeper'.rows (λ now. keeper.rows ≡ Some now)
  pub faults : keeper'.faults ≡ count
  pub loads : keeper'.loads ≡ keeper.loads
  pub commits : AtMostOnce keeper.commits keeper'.commits
  pub sure : keeper'.sure ≡ keeper.sure

-- what making a change gives: the change made and kept, and nothing asked of the keeper where
-- there are no puts; or a fault of the keeper, which was asked for puts, or want of memory, which
-- leave all
abbrev pub Makes : Matter → KeeperView → Edit → Result (Unit {0}) KeepRefusal → Matter → KeeperView
    → Type 0
Makes m keeper edit (Ok _) m' keeper' =
    Made m keeper edit m' keeper' × (puts_of edit ≡ [] → keeper' ≡ keeper)
Makes m keeper edit (Err keeps.Failed) m' keeper' =
    (puts_of edit ≢ []) × Stays m keeper (risen keeper.faults) m' keeper'
Makes m keeper edit (Err keeps.OutOfMemory) m' keeper' = Stays m keeper keeper.faults m' keeper'

-- the numbers that are told of an import
abbrev pub counted_of : Imported → Counted
counted_of imported = record { documents = imported.documents; pages = imported.pages }

-- an import was made, and its numbers told; the keeper is asked for nothing where there are no puts
pub record ImportMade (m : Matter) (b : BatchShown) (keeper : KeeperView) (counted : Counted)
    (m' : Matter) (keeper' : KeeperView) : Type 0 where
  pub imported : Imported
  pub answer : import_of m b ≡ Ok imported
  pub numbers : counted ≡ counted_of imported
  pub made : Made m keeper imported.change m' keeper'
  pub quiet : puts_of imported.change ≡ [] → keeper' ≡ keeper

-- what a step of an import gives: the import made and kept; or a rule, a fault of the keeper at an
-- import that has puts, or want of memory, which leave all
abbrev pub StepsImport : Matter → BatchShown → KeeperView → Result Counted MatterRefusal → Matter
    → KeeperView → Type 0
StepsImport m b keeper (Ok counted) m' keeper' = ImportMade m b keeper counted m' keeper'
StepsImport m b keeper (Err (stops.Rule rule)) m' keeper' =
    (import_of m b ≡ Err rule) × (m' ≡ m) × (keeper' ≡ keeper)
StepsImport m b keeper (Err stops.KeeperFault) m' keeper' =
    IsOkAnd (import_of m b) (λ imported. puts_of imported.change ≢ [])
    × Stays m keeper (risen keeper.faults) m' keeper'
StepsImport m b keeper (Err stops.OutOfMemory) m' keeper' = Stays m keeper keeper.faults m' keeper'

-- a call was made, and its reply told; the keeper is asked for nothing where the matter stays
pub record CallMade (m : Matter) (key : List ℕ) (call : Call) (keeper : KeeperView) (reply : Reply)
    (m' : Matter) (keeper' : KeeperView) : Type 0 where
  pub edit : Edit
  pub answer : step_of m key call ≡ Ok (record { reply = reply; matter = after m edit })
  pub made : Made m keeper edit m' keeper'
  pub quiet : after m edit ≡ m → keeper' ≡ keeper

-- what a step gives: the call made and kept; or a rule, a fault of the keeper at a call that
-- changes the matter, or want of memory, which leave all
abbrev pub StepsCall : Matter → List ℕ → Call → KeeperView → Result Reply MatterRefusal → Matter
    → KeeperView → Type 0
StepsCall m key call keeper (Ok reply) m' keeper' = CallMade m key call keeper reply m' keeper'
StepsCall m key call keeper (Err (stops.Rule rule)) m' keeper' =
    (step_of m key call ≡ Err rule) × (m' ≡ m) × (keeper' ≡ keeper)
StepsCall m key call keeper (Err stops.KeeperFault) m' keeper' =
    IsOkAnd (step_of m key call) (λ stepped. stepped.matter ≢ m)
    × Stays m keeper (risen keeper.faults) m' keeper'
StepsCall m key call keeper (Err stops.OutOfMemory) m' keeper' =
    Stays m keeper keeper.faults m' keeper'
