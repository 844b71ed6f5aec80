-- Where rows are kept.
use Rattle.std.specs.Prelude.{◌≡◌, ℕ, Bool, List, Option, Some, Result, Ok, Err, IfSome}
use Rattle.std.specs.Option.{option_map}
use Rattle.bp_core.specs.Counts.{risen}
use Rattle.bp_core.specs.declared.kept.Row.{Row}
use Rattle.bp_core.specs.declared.kept.Put.{Put}
use Rattle.bp_keep.specs.Puts.{put_all}
use Rattle.bp_keep.specs.declared.refusals.KeepRefusal.{KeepRefusal}
use Rattle.bp_keep.specs.declared.refusals.KeepRefusal.TheVariants.{Failed, OutOfMemory}

-- what is known of a keeper: its rows, if they are told; how often a call failed; how often it was
-- asked to load, and to commit; and whether it is sure, one that can't fail
pub record KeeperView : Type 0 where
  pub rows : Option (List Row)
  pub faults : ℕ
  pub loads : ℕ
  pub commits : ℕ
  pub sure : Bool

-- where both tell rows, they tell the same
abbrev pub SameRows : Option (List Row) → Option (List Row) → Type 0
SameRows before after = IfSome before (λ rows. IfSome after (λ now. now ≡ rows))

-- only the count of the answer's own cause rises
abbrev pub faults_after : {T : Type 0} → ℕ → Result T KeepRefusal → ℕ
faults_after faults (Ok _) = faults
faults_after faults (Err Failed) = risen faults
faults_after faults (Err OutOfMemory) = faults

-- what a load may answer of told rows
abbrev pub LoadOf : List Row → Result (List Row) KeepRefusal → Type 0
LoadOf rows (Ok loaded) = loaded ≡ rows
LoadOf rows (Err _) = Unit {0}

-- a load gave this: the rows, where they are told as it ends, since what a disk holds may show only
-- in the call. It left them
pub record Loads (before : KeeperView) (result : Result (List Row) KeepRefusal)
    (after : KeeperView) : Type 0 where
  pub told_after : IfSome after.rows (λ rows. LoadOf rows result)
  pub same : SameRows before.rows after.rows
  pub faults : after.faults ≡ faults_after before.faults result
  pub loads : after.loads ≡ risen before.loads
  pub commits : after.commits ≡ before.commits
  pub sure : after.sure ≡ before.sure

-- the rows, if they are told, after a list of puts: all of them made, or none
abbrev pub rows_after : List Put → Option (List Row) → Result (Unit {0}) KeepRefusal
    → Option (List Row)
rows_after puts rows (Ok _) = option_map (put_all puts) rows
rows_after puts rows (Err _) = rows

-- a commit gave this. It tells rows after only where it told them before
pub record Commits (before : KeeperView) (puts : List Put)
    (result : Result (Unit {0}) KeepRefusal) (after : KeeperView) : Type 0 where
  pub rows : IfSome after.rows (λ now. rows_after puts before.rows result ≡ Some now)
  pub faults : after.faults ≡ faults_after before.faults result
  pub loads : after.loads ≡ before.loads
  pub commits : after.commits ≡ risen before.commits
  pub sure : after.sure ≡ before.sure
