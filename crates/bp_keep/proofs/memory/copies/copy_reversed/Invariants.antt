use Rattle.std.proofs.Common.{◌≡◌, take}
use Rattle.bp_keep.proofs.memory.copies.copy_reversed.Given as goal

abbrev pub invariant-loop-change : goal.invariant-loop-change
invariant-loop-change l = l.copies.items ≡ take l.change-index l.puts
