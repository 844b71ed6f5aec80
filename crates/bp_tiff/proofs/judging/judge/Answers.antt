use Rattle.std.proofs.Common.{sym, ◌∙◌}
use Rattle.bp_tiff.proofs.JudgeLemmas.{passes_too, file_holds, file_breaks}
use Rattle.bp_tiff.proofs.judging.judge.Goals as goal

pub returns-clause-found : goal.returns-clause-found
returns-clause-found c =
    let laid = sym c.read_layout.ensures.gives ∙ c.in-Ok.is in
    passes_too _ _ c.judge_strips.result (file_holds c.args.bytes.now c.in-Ok.layout laid) c.judge_strips.ensures.found

pub returns-clause-refused : goal.returns-clause-refused
returns-clause-refused c =
    let laid = sym c.read_layout.ensures.gives ∙ c.in-Ok.is in
    file_breaks c.args.bytes.now c.in-Ok.layout c.judge_strips.result laid c.judge_strips.ensures.refused
