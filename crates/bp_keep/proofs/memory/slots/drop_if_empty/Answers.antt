use Rattle.std.proofs.Common.{Some, sym, ap, ◌∙◌}
use Rattle.bp_keep.proofs.SlotLemmas.{held-drop, in_order-remove}
use Rattle.bp_keep.proofs.memory.slots.drop_if_empty.Goals as goal

pub returns-in-Some-None-clause-rows : goal.returns-in-Some-None-clause-rows
returns-in-Some-None-clause-rows c =
    let found = sym c.in-Some-None.ensures.value ∙ ap Some c.in-Some-None.field-0-is in
    rw c.remove.ensures.entries (held-drop _ c.args.slots.now.entries found)

pub returns-in-Some-None-clause-in_order : goal.returns-in-Some-None-clause-in_order
returns-in-Some-None-clause-in_order c =
    rw c.remove.ensures.entries (in_order-remove _ 0 c.args.slots.now.entries c.requires)
