use Rattle.bp_desk.proofs.ExchangeLemmas.{tells}
use Rattle.bp_desk.proofs.handler.SeatHandlerEnough.enough.Goals as goal

pub returns-clause-told : goal.returns-clause-told
returns-clause-told g c =
    tells _ _ c.enough.ensures.whole c.enough.ensures.alike c.enough.ensures.never
