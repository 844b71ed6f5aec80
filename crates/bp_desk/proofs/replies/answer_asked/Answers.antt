use Rattle.std.proofs.Common.{refl}
use Rattle.bp_book.specs.Calls.{made_by}
use Rattle.bp_desk.proofs.ExchangeLemmas.{answer_call}
use Rattle.bp_desk.proofs.SeatLemmas.{calls_at}
use Rattle.bp_desk.proofs.replies.answer_asked.Goals as goal

pub returns-clause-answers : goal.returns-clause-answers
returns-clause-answers g c =
    let seat = c.args.seat.now.view.number in
    let made = made_by seat c.args.asked.now.key c.args.asked.now.call in
    answer_call seat _ _ made c.call-given.result c.answer_from-answer.result _ refl
    (calls_at _ _ made refl c.know_own.ensures.within c.call-given.result
    c.call-given.ensures.called)
    c.answer_from-answer.ensures c.reply_bytes.ensures
