use Rattle.std.proofs.Common.{◌≡◌, reverse, vec_len}
use Rattle.std.specs.Prelude.{IsTrue}
use Rattle.bp_keep.specs.Puts.{put_all}
use Rattle.bp_keep.specs.Slots.{held, in_order}
use Rattle.bp_keep.proofs.PutLemmas.{have_slots}
use Rattle.bp_keep.proofs.memory.slots.make_puts.Given as goal

abbrev pub invariant-loop-change : goal.invariant-loop-change
invariant-loop-change l = record {
  rows : put_all (reverse l.left.items) (held l.slots.entries)
      ≡ put_all (reverse l.initial.left.items) (held l.initial.slots.entries);
  in_order : IsTrue (in_order 0 l.slots.entries);
  there : IsTrue (have_slots l.slots.entries l.left.items);
}

abbrev pub decreases-loop-change : goal.decreases-loop-change
decreases-loop-change l = vec_len l.left
