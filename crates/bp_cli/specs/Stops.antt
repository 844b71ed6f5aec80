-- Which stop each refusal of a call becomes.
use Rattle.std.specs.Prelude.{◌≡◌}
use Rattle.bp_core.specs.declared.rules.RuleKind.TheVariants as kinds
use Rattle.bp_core.specs.Rules.{bare_rule}
use Rattle.bp_core.specs.declared.refusals.Refusal.{Refusal}
use Rattle.bp_core.specs.declared.refusals.Refusal.TheVariants as refusals
use Rattle.bp_outside.specs.declared.refusals.ReadRefusal.{ReadRefusal}
use Rattle.bp_outside.specs.declared.refusals.ReadRefusal.TheVariants as reads
use Rattle.bp_outside.specs.declared.refusals.FolderRefusal.{FolderRefusal}
use Rattle.bp_outside.specs.declared.refusals.FolderRefusal.TheVariants as folders
use Rattle.bp_keep.specs.declared.refusals.KeepRefusal.{KeepRefusal}
use Rattle.bp_keep.specs.declared.refusals.KeepRefusal.TheVariants as keepers
use Rattle.bp_import.specs.declared.refusals.ImportRefusal.{ImportRefusal}
use Rattle.bp_import.specs.declared.refusals.ImportRefusal.TheVariants as imports
use Rattle.bp_rules.specs.declared.refusals.MatterRefusal.{MatterRefusal}
use Rattle.bp_rules.specs.declared.refusals.MatterRefusal.TheVariants as matters
use Rattle.bp_press.specs.declared.pressing.PressRefusal.{PressRefusal}
use Rattle.bp_press.specs.declared.pressing.PressRefusal.TheVariants as presses
use Rattle.bp_cli.specs.declared.stops.Stop.{Stop}
use Rattle.bp_cli.specs.declared.stops.Stop.TheVariants as stops

-- a refusal of a call ends a command
abbrev pub StopsFor : Refusal → Stop → Type 0
StopsFor (refusals.Rule rule) stop = stop ≡ stops.Broken rule
StopsFor refusals.OutOfMemory stop = stop ≡ stops.OutOfMemory

-- a refusal of the folder ends a command
abbrev pub StopsForFolder : FolderRefusal → Stop → Type 0
StopsForFolder folders.Failed stop = stop ≡ stops.FolderFault
StopsForFolder folders.OutOfMemory stop = stop ≡ stops.OutOfMemory

-- a refusal of the keeper ends a command
abbrev pub StopsForKeeper : KeepRefusal → Stop → Type 0
StopsForKeeper keepers.Failed stop = stop ≡ stops.KeeperFault
StopsForKeeper keepers.OutOfMemory stop = stop ≡ stops.OutOfMemory

-- a refusal of a load or a step ends a command
abbrev pub StopsForMatter : MatterRefusal → Stop → Type 0
StopsForMatter (matters.Rule rule) stop = stop ≡ stops.Broken rule
StopsForMatter matters.KeeperFault stop = stop ≡ stops.KeeperFault
StopsForMatter matters.OutOfMemory stop = stop ≡ stops.OutOfMemory

-- a refusal of an import ends a command
abbrev pub StopsForBatch : ImportRefusal → Stop → Type 0
StopsForBatch (imports.Rule rule) stop = stop ≡ stops.Broken rule
StopsForBatch imports.SourceFault stop = stop ≡ stops.SourceFault
StopsForBatch imports.OutOfMemory stop = stop ≡ stops.OutOfMemory

-- a refusal of the press ends a command
abbrev pub StopsForPress : PressRefusal → Stop → Type 0
StopsForPress presses.FolderFault stop = stop ≡ stops.FolderFault
StopsForPress presses.OutOfMemory stop = stop ≡ stops.OutOfMemory

-- the stop that a refusal of a read becomes
abbrev pub read_stop : ReadRefusal → Stop
read_stop reads.Absent = stops.Broken (bare_rule kinds.FileAbsent)
read_stop reads.TooLong = stops.Broken (bare_rule kinds.FileTooLong)
read_stop reads.Failed = stops.SourceFault
read_stop reads.OutOfMemory = stops.OutOfMemory
