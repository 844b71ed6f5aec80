use Rattle.bp_receiver.proofs.EventServingLemmas.{tells}
use Rattle.bp_receiver.proofs.handler.EventHandlerEnough.enough.Goals as goal

pub returns-clause-told : goal.returns-clause-told
returns-clause-told c =
    tells _ _ c.event_enough.ensures.whole c.event_enough.ensures.alike c.event_enough.ensures.never
