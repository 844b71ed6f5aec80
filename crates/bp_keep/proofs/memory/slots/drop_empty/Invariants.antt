use Rattle.std.proofs.Common.{◌≡◌}
use Rattle.std.specs.Prelude.{IsTrue}
use Rattle.bp_keep.specs.Slots.{held, in_order}
use Rattle.bp_keep.proofs.memory.slots.drop_empty.Given as goal

abbrev pub invariant-loop-change : goal.invariant-loop-change
invariant-loop-change l = record {
  rows : held l.slots.entries ≡ held l.initial.slots.entries;
  in_order : IsTrue (in_order 0 l.slots.entries);
}
