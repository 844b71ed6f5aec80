use Rattle.std.proofs.Common.{ℕ, subst}
use Rattle.bp_desk.specs.Doors.{history_at}
use Rattle.bp_desk.specs.Exchanges.{Deals}
use Rattle.bp_desk.proofs.ExchangeLemmas.{answer_bytes}
use Rattle.bp_desk.proofs.SeatLemmas.{same_twice, still_of}
use Rattle.bp_desk.proofs.handler.SeatHandlerHandlerSeatUnit.answer.Goals as goal

pub answer_read-requires : goal.answer_read-requires
answer_read-requires g c = c.requires.0

pub returns-clause-answers : goal.returns-clause-answers
returns-clause-answers g c = λ x read whole sent.
    let dealt : ℕ → Type 0 = λ n.
    Deals n (history_at c.args.at.now.view) x (history_at c.answer_read.new.seat.view) in
    subst dealt c.requires.1.view.number
    (answer_bytes _ _ _ _ _ c.read_by-request.result c.read_by-request.ensures
    c.answer_read.ensures.answers x read whole sent)

pub returns-clause-keeps : goal.returns-clause-keeps
returns-clause-keeps g c = (
  still_of c.args.self.now.desk.now _ _ c.requires.0 c.answer_read.ensures.same,
  same_twice _ _ _ c.requires.1 c.answer_read.ensures.same,
)
