use Rattle.bp_receiver.proofs.EventServingLemmas.{bytes-answered}
use Rattle.bp_receiver.proofs.handler.EventHandlerHandlerDelivery.answer.Goals as goal

pub returns-clause-answers : goal.returns-clause-answers
returns-clause-answers g c =
    bytes-answered _ _ c.args.bytes.now _ c.read_by-read.result _ c.read_by-read.ensures
    c.answer_read.ensures
