use denote.Param.Send.{sendable}
use Rattle.std.proofs.Crossing.{crosses}
use Rattle.bp_desk.proofs.ThreadLemmas.{note_send, book_send}
use Rattle.bp_desk.proofs.threads.note_goes.Goals as goal

pub may_go-requires-send-T : goal.may_go-requires-send-T
may_go-requires-send-T g c κs within =
    let k = c.type_bounds.send-K in search (note_send, book_send, sendable, crosses) depth 40 fits 20000
