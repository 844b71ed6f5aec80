use Rattle.std.proofs.Common.{sym, ◌∙◌, refl, ap}
use Rattle.std.proofs.lemmas.Result.{err_from_is_err_and}
use Rattle.bp_core.specs.Calls.{is_sure}
use Rattle.bp_core.proofs.CallsLemmas.{stays_unsure}
use Rattle.bp_outside.proofs.MemoryLemmas.{added_in_part}
use Rattle.bp_outside.proofs.memory.folder.MemFolderFolder.append.Goals as goal

pub returns-then-next_fails-clause-appends : goal.returns-then-next_fails-clause-appends
returns-then-next_fails-clause-appends c =
    added_in_part _ _ _ _ _ _ _ _ _ _ c.add_bytes.ensures c.saturating_add-self.ensures
    (stays_unsure _ _ _ _ (sym c.next_fails.ensures.answer ∙ c.if-next_fails.true)
    c.next_fails.ensures.counted)

pub returns-in_err-add_bytes-clause-appends : goal.returns-in_err-add_bytes-clause-appends
returns-in_err-add_bytes-clause-appends c =
    let p = err_from_is_err_and c.from_residual.result c.from_residual.ensures.1 in
    let sure = ap (λ calls. is_sure calls c.args.self.now.faults) c.next_fails.ensures.counted in
    rw (p.1, p.2) (added_in_part _ _ _ _ _ _ _ _ _ _ c.add_bytes-2.ensures refl sure)
