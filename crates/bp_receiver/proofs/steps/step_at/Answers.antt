use Rattle.bp_receiver.proofs.ReadyLemmas.{ready-stay, step-leaves}
use Rattle.bp_receiver.proofs.steps.step_at.Goals as goal

pub invariant_of-delivery : goal.invariant_of-delivery
invariant_of-delivery g c =
    ready-stay c.delivery.inside.tables.matter _ c.delivery.inside.ready.items
    (step-leaves c.delivery.inside.tables.matter c.args.key.now c.args.call.now _ c.step.result _ _
    c.step.ensures.made)
    c.delivery.invariant
