use Rattle.std.proofs.Common.{arith}
use Rattle.bp_tiff.proofs.InTurnLemmas.{breaks_here, refused_too}
use Rattle.bp_tiff.proofs.JudgeLemmas.{none_judged, one_judged, all_judged}
use Rattle.bp_tiff.proofs.judging.judge_strips.Goals as goal

pub loop-k-init : goal.loop-k-init
loop-k-init c = none_judged c.args.bytes.now c.args.layout.now

pub returns-in-Err-clause-refused : goal.returns-in-Err-clause-refused
returns-in-Err-clause-refused c =
    refused_too _ _ c.in-Err.refusal (λ rule broken. breaks_here c.args.bytes.now c.args.layout.now c.loop-k.k rule (omega arith) (c.loop-k.invariant.breaks rule) broken)
    c.in-Err.ensures.refused

pub loop-k-preserved : goal.loop-k-preserved
loop-k-preserved c =
    one_judged c.args.bytes.now c.args.layout.now c.loop-k.k (omega arith) c.loop-k.invariant c.in_default.ensures.found

pub returns-clause-found : goal.returns-clause-found
returns-clause-found c = all_judged c.args.bytes.now c.args.layout.now c.loop-k.k (omega arith) c.loop-k.invariant
