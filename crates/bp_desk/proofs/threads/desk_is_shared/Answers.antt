use denote.Param.Send.{sendable}
use Rattle.std.proofs.Crossing.{crosses}
use Rattle.bp_desk.proofs.ThreadLemmas.{book_send, desk_send, desk_sync}
use Rattle.bp_desk.proofs.threads.desk_is_shared.Goals as goal

pub may_be_shared-requires-send-T : goal.may_be_shared-requires-send-T
may_be_shared-requires-send-T g c κs within =
    let k = c.type_bounds.send-K in search (desk_send, book_send, sendable, crosses) depth 40 fits 20000

pub may_be_shared-requires-sync-T : goal.may_be_shared-requires-sync-T
may_be_shared-requires-sync-T g c κs within =
    let k = c.type_bounds.send-K in search (desk_sync, book_send, sendable, crosses) depth 40 fits 20000
