use Rattle.bp_keep.proofs.SlotLemmas.{ascends-held}
use Rattle.bp_keep.proofs.memory.MemKeeperKeeper.commit.Goals as goal

pub invariant_of-self-2 : goal.invariant_of-self-2
invariant_of-self-2 c =
    let ordered = c.drop_empty.ensures.in_order in
    record {
      in_order = ordered;
      ascending = rw c.in_ok-move_in.ensures.all
          (ascends-held 0 c.drop_empty.new.slots.entries ordered);
    }
