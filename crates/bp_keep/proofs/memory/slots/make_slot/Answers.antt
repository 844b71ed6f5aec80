use Rattle.std.proofs.Common.{refl, arith}
use Rattle.bp_keep.proofs.SlotLemmas.{held-make, not_there, in_order-insert}
use Rattle.bp_keep.proofs.memory.slots.make_slot.Goals as goal

pub returns-in_ok-insert-clause-rows : goal.returns-in_ok-insert-clause-rows
returns-in_ok-insert-clause-rows c =
    rw c.in_ok-insert.ensures.entries
    (held-make c.args.key c.args.slots.now.entries
    (not_there _ _ c.contains_key.ensures c.if-not-contains_key.true))

pub returns-in_ok-insert-clause-in_order : goal.returns-in_ok-insert-clause-in_order
returns-in_ok-insert-clause-in_order c =
    let old = c.args.slots.now.entries in
    rw c.in_ok-insert.ensures.entries
    (in_order-insert 0 c.args.key _ old c.requires (omega arith) refl)
