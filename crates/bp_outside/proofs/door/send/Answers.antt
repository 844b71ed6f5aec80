use Rattle.std.proofs.Common.{sym, arith}
use Rattle.std.proofs.lemmas.Result.{err_from_is_err_and}
use Rattle.bp_outside.proofs.DoorLemmas.{refused_after, send_more, wrote_nothing}
use Rattle.bp_outside.proofs.door.send.Goals as goal

pub returns-in_err-at : goal.returns-in_err-at
returns-in_err-at g c =
    let p = err_from_is_err_and c.from_residual.result c.from_residual.ensures.1 in
    rw (p.1, p.2) (refused_after _ _ _ _ _ _ c.loop-at.invariant.1 c.in_err-at.ensures)

pub loop-at-preserved : goal.loop-at-preserved
loop-at-preserved g c = send_more _ _ _ _ _ _ c.loop-at.invariant c.in_ok-at.ensures

pub loop-at-init : goal.loop-at-init
loop-at-init g c = (omega arith, sym (wrote_nothing _))
