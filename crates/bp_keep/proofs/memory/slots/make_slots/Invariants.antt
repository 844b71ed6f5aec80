use Rattle.std.proofs.Common.{◌≡◌, take}
use Rattle.std.specs.Prelude.{IsTrue}
use Rattle.bp_keep.specs.Slots.{held, in_order}
use Rattle.bp_keep.proofs.PutLemmas.{have_slots}
use Rattle.bp_keep.proofs.memory.slots.make_slots.Given as goal

abbrev pub invariant-loop-change : goal.invariant-loop-change
invariant-loop-change l = record {
  rows : held l.slots.entries ≡ held l.initial.slots.entries;
  in_order : IsTrue (in_order 0 l.slots.entries);
  there : IsTrue (have_slots l.slots.entries (take l.change-index l.changes));
}
