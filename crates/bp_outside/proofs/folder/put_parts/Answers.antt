use Rattle.std.proofs.lemmas.Result.{err_from_is_err_and}
use Rattle.bp_outside.proofs.FolderLemmas.{put_in_part, put_whole, first_in_part, rest_in_part, both_added}
use Rattle.bp_outside.proofs.folder.put_parts.Goals as goal

pub returns-in_err-append_all : goal.returns-in_err-append_all
returns-in_err-append_all g c =
    let residual = c.from_residual-in_err-append_all in
    let p = err_from_is_err_and residual.result residual.ensures.1 in
    rw (p.1, p.2) (put_in_part _ _ _ _ _ _ c.in_ok-create.ensures (first_in_part _ _ _ _ c.in_err-append_all.ensures))

pub returns-in_err-append_all-2 : goal.returns-in_err-append_all-2
returns-in_err-append_all-2 g c =
    let residual = c.from_residual-in_err-append_all-2 in
    let p = err_from_is_err_and residual.result residual.ensures.1 in
    rw (p.1, p.2) (put_in_part _ _ _ _ _ _ c.in_ok-create.ensures
    (rest_in_part _ _ _ _ _ _ c.in_ok-append_all.ensures c.in_err-append_all-2.ensures))

pub returns : goal.returns
returns g c =
    put_whole c.finish.result _ _ _ _ _ _ c.in_ok-create.ensures
    (both_added _ _ _ _ _ c.in_ok-append_all.ensures c.in_ok-append_all-2.ensures) c.finish.ensures
