use Rattle.std.proofs.Common.{arith}
use Rattle.bp_receiver.proofs.EventServingLemmas.{event-answers-as}
use Rattle.bp_receiver.proofs.event_answers.answer_event.Goals as goal

pub returns : goal.returns
returns g c =
    event-answers-as _ _ c.args.event.now _ _ c.deliver_step-given.result c.text_for.result _
    (let count = c.faults-before.ensures in omega (arith, count)) c.deliver_step-given.ensures
    c.text_for.ensures c.is_made.ensures
