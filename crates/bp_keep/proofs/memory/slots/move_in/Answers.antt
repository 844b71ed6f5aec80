use Rattle.std.proofs.Common.{◌++◌, ◌∙◌, ap, rules}
use Rattle.bp_keep.proofs.SlotLemmas.{moved}
use Rattle.bp_keep.proofs.memory.slots.move_in.Goals as goal

pub loop-last-preserved-in-Some-pop : goal.loop-last-preserved-in-Some-pop
loop-last-preserved-in-Some-pop c =
    let given = c.loop-last.given.items in
    let same =
    ap (λ rows. given ++ rows) c.in_ok-make_slot.ensures.rows ∙ c.loop-last.invariant.same in
    record {
      same =
          moved given c.pop.new.self.items c.in-Some-pop.row c.key-key.result _ _ _
          c.in-Some-pop.ensures.items same c.requires.ascending (search rules)
          c.fill_slot.ensures.rows;
      in_order = c.fill_slot.ensures.in_order;
    }
