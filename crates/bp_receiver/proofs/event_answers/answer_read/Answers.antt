use Rattle.bp_receiver.proofs.EventServingLemmas.{answers-as, refusal-answers}
use Rattle.bp_receiver.proofs.event_answers.answer_read.Goals as goal

pub returns-in-Ok : goal.returns-in-Ok
returns-in-Ok g c = answers-as _ _ _ _ _ _ c.in-Ok.is c.answer_event.ensures

pub returns-in-Err : goal.returns-in-Err
returns-in-Err g c =
    answers-as _ _ _ _ _ _ c.in-Err.is (refusal-answers _ c.in-Err.refusal _ c.refusal_bytes.ensures)
