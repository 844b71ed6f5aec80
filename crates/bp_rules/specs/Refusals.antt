-- Which refusal of a matter each refusal of a call becomes.
use Rattle.std.specs.Prelude.{◌≡◌}
use Rattle.bp_core.specs.declared.refusals.Refusal.{Refusal}
use Rattle.bp_core.specs.declared.refusals.Refusal.TheVariants as refusals
use Rattle.bp_keep.specs.declared.refusals.KeepRefusal.{KeepRefusal}
use Rattle.bp_keep.specs.declared.refusals.KeepRefusal.TheVariants as keeps
use Rattle.bp_rules.specs.declared.refusals.MatterRefusal.{MatterRefusal}
use Rattle.bp_rules.specs.declared.refusals.MatterRefusal.TheVariants as stops

-- a rule is handed on, and want of memory
abbrev pub RefusesFor : Refusal → MatterRefusal → Type 0
RefusesFor (refusals.Rule rule) stop = stop ≡ stops.Rule rule
RefusesFor refusals.OutOfMemory stop = stop ≡ stops.OutOfMemory

-- a keeper that failed is its fault
abbrev pub RefusesForKeeper : KeepRefusal → MatterRefusal → Type 0
RefusesForKeeper keeps.Failed stop = stop ≡ stops.KeeperFault
RefusesForKeeper keeps.OutOfMemory stop = stop ≡ stops.OutOfMemory
