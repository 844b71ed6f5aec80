use Rattle.std.proofs.Common.{◌≡◌, ◌++◌, vec_len}
use Rattle.std.specs.Prelude.{IsTrue}
use Rattle.bp_keep.specs.Slots.{held, in_order}
use Rattle.bp_keep.proofs.memory.slots.move_in.Given as goal

abbrev pub invariant-loop-last : goal.invariant-loop-last
invariant-loop-last l = record {
  same : l.given.items ++ held l.slots.entries
      ≡ l.initial.given.items ++ held l.initial.slots.entries;
  in_order : IsTrue (in_order 0 l.slots.entries);
}

abbrev pub decreases-loop-last : goal.decreases-loop-last
decreases-loop-last l = vec_len l.given
