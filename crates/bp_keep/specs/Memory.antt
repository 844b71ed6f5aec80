-- The keeper in memory. It tells its rows, and fails at the calls whose numbers it was given.
use Rattle.std.specs.Prelude.{◌++◌, List, Some}
use Rattle.bp_core.specs.declared.kept.Row.{Row}
use Rattle.bp_core.specs.declared.calls.Calls.{Calls}
use Rattle.bp_core.specs.Calls.{is_sure}
use Rattle.bp_keep.specs.Keeper.{KeeperView}
use Rattle.bp_keep.specs.Slots.{held}
use Rattle.bp_keep.specs.declared.memory.MemKeeper.{MemKeeper}

-- its rows: those that are still as they were given, and behind them those in the tree
abbrev pub keeper_rows : MemKeeper → List Row
keeper_rows keeper = keeper.given.items ++ held keeper.slots.entries

-- what is known of it
abbrev pub memory_shown : MemKeeper → KeeperView
memory_shown keeper =
    record {
      rows = Some (keeper_rows keeper);
      faults = keeper.faults;
      loads = keeper.loads;
      commits = keeper.commits;
      sure = is_sure keeper.calls keeper.faults;
    }

-- its calls
abbrev pub keeper_calls : MemKeeper → Calls
keeper_calls keeper = keeper.calls
