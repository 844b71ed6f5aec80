use Rattle.std.proofs.Common.{◌≤◌, arith}
use Rattle.std.proofs.lemmas.List.{length-take}
use Rattle.bp_outside.proofs.ReadingLemmas.{took_some}
use Rattle.bp_outside.proofs.system.tcp_door.drain.Goals as goal

pub loop-left-preserved : goal.loop-left-preserved
loop-left-preserved g c =
    let bound = c.in_ok-taken.ensures.bound.0 in
    let within = c.loop-left.invariant.within in
    let room = length-take c.min-most.result c.loop-left.room in
    let few : c.in_ok-taken.taken ≤ c.loop-left.left =
    omega (arith, bound, c.read.auto.buf, room, c.min-most.ensures) in
    record {
      within = omega (arith, within);
      taken = took_some _ _ _ _ _ _ _ within few bound c.loop-left.invariant.taken
          c.in_ok-taken.ensures.bytes.0;
    }
