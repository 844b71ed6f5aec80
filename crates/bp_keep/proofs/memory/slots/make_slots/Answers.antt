use Rattle.std.proofs.Common.{◌∙◌, add-one}
use Rattle.bp_keep.proofs.PutLemmas.{have_slots-take}
use Rattle.bp_keep.proofs.memory.slots.make_slots.Goals as goal

pub loop-change-preserved : goal.loop-change-preserved
loop-change-preserved c =
    let old = c.loop-change in
    let made = c.in_ok-make_slot.ensures in
    let here = rw c.key_of.ensures at made.there in
    record {
      rows = made.rows ∙ old.invariant.rows;
      in_order = made.in_order;
      there = rw add-one
          (have_slots-take old.slots.entries c.make_slot.new.slots.entries c.args.changes.now
          old.change-index c.change-item.result made.kept c.loop-change-test.true c.change-item.is
          old.invariant.there here);
    }
