-- What the steps of `produce` and `press` leave, one behind the other.
use Rattle.std.specs.Prelude.{◌≡◌, ◌≤◌, ◌⊎◌, ℕ, is_some, IfSome, IsTrue, List, Result, Ok, Err}
use Rattle.bp_core.specs.Counts.{risen}
use Rattle.bp_bates.specs.Prefixes.{is_good_prefix}
use Rattle.bp_bates.specs.Spans.{largest_of}
use Rattle.bp_outside.specs.Folder.{FolderView}
use Rattle.bp_outside.specs.declared.files.FileRow.{FileRow}
use Rattle.bp_keep.specs.Keeper.{KeeperView}
use Rattle.bp_matter.specs.Matter.{Matter}
use Rattle.bp_matter.specs.declared.calls.Reply.{Reply}
use Rattle.bp_matter.specs.declared.calls.Reply.TheVariants as replies
use Rattle.bp_matter.specs.declared.rows.Production.{Production}
use Rattle.bp_matter.specs.declared.rows.Request.{Request}
use Rattle.bp_freeze.specs.Freezing.{freeze_of}
use Rattle.bp_freeze.specs.Keeping.{frozen_matter}
use Rattle.bp_rules.specs.Steps.{AtMostOnce, KeepsRows, Stays}
use Rattle.bp_rules.specs.declared.refusals.MatterRefusal.{MatterRefusal}
use Rattle.bp_press.specs.Pressed.{pressed_of}
use Rattle.bp_press.specs.Writing.{AddsPart, with_files}
use Rattle.bp_cli.specs.declared.stops.Stop.{Stop}
use Rattle.bp_cli.specs.declared.stops.Stop.TheVariants as stops
use Rattle.bp_cli.specs.Endings.{Ending, failed_folder}
use Rattle.bp_cli.specs.Produce.{volume_line}
use Rattle.bp_cli.specs.Stops.{StopsForMatter}

-- a reply that has a production
abbrev pub IsProduced : Reply → Type 0
IsProduced (replies.Produced f) = Unit {0}
IsProduced _ = ⊥

-- what the answer to a freeze comes to: its production, or the stop for its refusal
abbrev pub TellsFrozen : Result Reply MatterRefusal → Result Production Stop → Type 0
TellsFrozen (Ok reply) (Ok f) = reply ≡ replies.Produced f
TellsFrozen (Ok reply) (Err stop) = ⊥
TellsFrozen (Err refusal) (Ok f) = ⊥
TellsFrozen (Err refusal) (Err stop) = StopsForMatter refusal stop

-- the lead froze this production, and a keeper that kept the matter keeps the one after it; it
-- begins to tell no rows
pub record Froze (m : Matter) (q : Request) (keeper : KeeperView) (f : Production) (m' : Matter)
    (keeper' : KeeperView) : Type 0 where
  pub answer : freeze_of m q ≡ Ok f
  pub matter : m' ≡ frozen_matter f m
  pub kept : KeepsRows keeper m → KeepsRows keeper' m'
  pub told : IfSome keeper'.rows (λ _. IsTrue (is_some keeper.rows))
  pub faults : keeper'.faults ≡ keeper.faults
  pub loads : keeper'.loads ≡ keeper.loads
  pub commits : AtMostOnce keeper.commits keeper'.commits
  pub sure : keeper'.sure ≡ keeper.sure

-- what freezing for the lead leaves
abbrev pub Freezes :
    Matter → Request → KeeperView → Result Production Stop
    → Matter → KeeperView → Type 0
Freezes m q keeper (Ok f) m' keeper' = Froze m q keeper f m' keeper'
Freezes m q keeper (Err (stops.Broken rule)) m' keeper' =
    (freeze_of m q ≡ Err rule) × (keeper' ≡ keeper)
Freezes m q keeper (Err stops.KeeperFault) m' keeper' =
    Stays m keeper (risen keeper.faults) m' keeper'
Freezes m q keeper (Err stops.OutOfMemory) m' keeper' = Stays m keeper keeper.faults m' keeper'
Freezes m q keeper (Err stops.WordsRefused) m' keeper' = ⊥
Freezes m q keeper (Err stops.SourceFault) m' keeper' = ⊥
Freezes m q keeper (Err stops.FolderFault) m' keeper' = ⊥

-- a number has a label under a prefix of this width
pub record HasLabel (width number : ℕ) : Type 0 where
  pub from : 1 ≤ number
  pub to : number ≤ largest_of width

-- the first and the last number of a production have labels
pub record HasLabels (f : Production) : Type 0 where
  pub prefix : IsTrue (is_good_prefix f.request.prefix.text f.request.prefix.width)
  pub first : HasLabel f.request.prefix.width f.span.first
  pub last : HasLabel f.request.prefix.width f.span.last

-- a volume was put and its line made; or a part of it was put, with the fault counted; or memory
-- ran out, for a file or for the line
abbrev pub PutsVolume : Production → List FileRow → FolderView → Ending → FolderView → Type 0
PutsVolume f volume folder (Ok line) after =
    (line ≡ volume_line f (pressed_of volume)) × (after ≡ with_files folder volume)
PutsVolume f volume folder (Err stops.FolderFault) after =
    AddsPart (failed_folder folder) volume after
PutsVolume f volume folder (Err stops.OutOfMemory) after =
    AddsPart folder volume after ⊎ (after ≡ with_files folder volume)
PutsVolume f volume folder (Err (stops.Broken rule)) after = ⊥
PutsVolume f volume folder (Err stops.WordsRefused) after = ⊥
PutsVolume f volume folder (Err stops.SourceFault) after = ⊥
PutsVolume f volume folder (Err stops.KeeperFault) after = ⊥
