use Rattle.std.proofs.Common.{sym, arith}
use Rattle.std.proofs.lemmas.Result.{err_from_is_err_and}
use Rattle.bp_outside.proofs.FolderLemmas.{refused_after, append_more, with_bytes-nothing}
use Rattle.bp_outside.proofs.folder.append_all.Goals as goal

pub returns-in_err-at : goal.returns-in_err-at
returns-in_err-at g c =
    let p = err_from_is_err_and c.from_residual.result c.from_residual.ensures.1 in
    rw (p.1, p.2) (refused_after _ _ _ _ _ _ c.loop-at.invariant.1 c.in_err-at.ensures)

pub loop-at-preserved : goal.loop-at-preserved
loop-at-preserved g c = append_more _ _ _ _ _ _ c.loop-at.invariant c.in_ok-at.ensures

pub loop-at-init : goal.loop-at-init
loop-at-init g c = (omega arith, sym (with_bytes-nothing _))
