use Rattle.std.proofs.Common.{◌∙◌, refl}
use Rattle.bp_outside.specs.Door.{door_refused}
use Rattle.bp_outside.specs.declared.refusals.DoorRefusal.TheVariants.{Failed, OutOfMemory}
use Rattle.bp_outside.proofs.MemoryDoorLemmas.{last_set}
use Rattle.bp_outside.proofs.memory.door.refuse.Goals as goal

pub returns-in-Failed-clause-marked : goal.returns-in-Failed-clause-marked
returns-in-Failed-clause-marked c =
    rw c.in-Failed.is (last_set (door_refused Failed) _ _ _ _
    (c.len-count.ensures ∙ c.args.exchanges.now.ok.0) c.if-count-eq0.false
    c.index_mut-last.ensures.value refl)

pub returns-in-OutOfMemory-clause-marked : goal.returns-in-OutOfMemory-clause-marked
returns-in-OutOfMemory-clause-marked c =
    rw c.in-OutOfMemory.is (last_set (door_refused OutOfMemory) _ _ _ _
    (c.len-count.ensures ∙ c.args.exchanges.now.ok.0) c.if-count-eq0.false
    c.index_mut-last.ensures.value refl)
