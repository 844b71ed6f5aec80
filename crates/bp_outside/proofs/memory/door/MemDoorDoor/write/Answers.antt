use Rattle.std.proofs.Common.{◌∙◌, ap, refl, sym}
use Rattle.bp_core.specs.Calls.{is_sure}
use Rattle.bp_core.proofs.CallsLemmas.{stays_unsure}
use Rattle.bp_outside.proofs.MemoryDoorLemmas.{refused_in_part}
use Rattle.bp_outside.proofs.memory.door.MemDoorDoor.write.Goals as goal

pub returns-then-next_fails-clause-writes : goal.returns-then-next_fails-clause-writes
returns-then-next_fails-clause-writes c =
    rw c.refuse.ensures.same (refused_in_part _ _ _ _ _ _ _ _ _ _ _ _ _ _ _
    c.put_out.ensures c.refuse.ensures.marked c.saturating_add-self.ensures
    (stays_unsure _ _ _ _ (sym c.next_fails.ensures.answer ∙ c.if-next_fails.true)
    c.next_fails.ensures.counted))

pub returns-then-is_err-clause-writes : goal.returns-then-is_err-clause-writes
returns-then-is_err-clause-writes c =
    let sure = ap (λ calls. is_sure calls c.args.self.now.faults) c.next_fails.ensures.counted in
    rw c.refuse-then-is_err.ensures.same (refused_in_part _ _ _ _ _ _ _ _ _ _ _ _ _ _ _
    c.put_out-2.ensures c.refuse-then-is_err.ensures.marked refl sure)
