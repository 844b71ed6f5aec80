use Rattle.bp_doors.specs.Exchanges.{text_of}
use Rattle.bp_desk.specs.Doors.{history_at}
use Rattle.bp_desk.proofs.ExchangeLemmas.{answer_as, answer_refusal}
use Rattle.bp_desk.proofs.SeatLemmas.{same_not}
use Rattle.bp_desk.proofs.replies.answer_read.Goals as goal

pub returns-in-Ok-clause-answers : goal.returns-in-Ok-clause-answers
returns-in-Ok-clause-answers g c =
    let v = c.args.seat.now.view in
    answer_as v.number (history_at v) (history_at c.answer_asked.new.seat.view) _ _
    (text_of c.answer_asked.result.text) c.in-Ok.is c.answer_asked.ensures.answers

pub returns-in-Err-clause-same : goal.returns-in-Err-clause-same
returns-in-Err-clause-same g c = same_not c.args.seat.now

pub returns-in-Err-clause-answers : goal.returns-in-Err-clause-answers
returns-in-Err-clause-answers g c =
    let v = c.args.seat.now.view in
    answer_as v.number (history_at v) (history_at v) _ _ (text_of c.refusal_bytes.result)
    c.in-Err.is (answer_refusal v.number (history_at v) _ _ c.refusal_bytes.ensures)
