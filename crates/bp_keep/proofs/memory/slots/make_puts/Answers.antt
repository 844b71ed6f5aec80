use Rattle.std.proofs.Common.{◌∙◌}
use Rattle.bp_keep.proofs.PutLemmas.{have_slots-init, put_all-pop}
use Rattle.bp_keep.proofs.memory.slots.make_puts.Goals as goal

pub loop-change-preserved : goal.loop-change-preserved
loop-change-preserved c =
    let old = c.loop-change in
    let left = c.pop.new.self.items in
    let popped = c.in-Some.ensures.items in
    record {
      rows =
          put_all-pop old.left.items left c.in-Some.change _ _ popped c.make_put.ensures.rows
          ∙ old.invariant.rows;
      in_order = c.make_put.ensures.in_order;
      there =
          have_slots-init old.slots.entries c.make_put.new.slots.entries old.left.items left
          c.in-Some.change c.make_put.ensures.kept popped old.invariant.there;
    }
