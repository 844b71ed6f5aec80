use Rattle.std.proofs.Common.{◌≡◌, ◌++◌}
use Rattle.bp_keep.specs.Slots.{held}
use Rattle.bp_keep.proofs.memory.copies.copy_filled.Given as goal

abbrev pub invariant-loop-slot : goal.invariant-loop-slot
invariant-loop-slot l = l.rows.items ++ held l.slot-iterator ≡ held l.slots.entries
