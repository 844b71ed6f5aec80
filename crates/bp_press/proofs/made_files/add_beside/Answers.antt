use denote.Param.Send.{sendable}
use Rattle.std.proofs.Crossing.{crosses}
use Rattle.bp_press.proofs.ThreadLemmas.{coded_send, maker_sync}
use Rattle.bp_press.proofs.made_files.add_beside.Goals as goal

pub join_mut-requires-send-A : goal.join_mut-requires-send-A
join_mut-requires-send-A g c κs within = search (coded_send, sendable, crosses) depth 40 fits 20000

pub join_mut-requires-send-F : goal.join_mut-requires-send-F
join_mut-requires-send-F g c κs within =
    let r = c.type_bounds.sync-R in
    let p = c.type_bounds.sync-P in
    let w = c.type_bounds.sync-G in search (maker_sync, sendable, crosses) depth 40 fits 20000
