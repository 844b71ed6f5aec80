use Rattle.bp_tiff.proofs.JudgeLemmas.{HasJudged}
use Rattle.bp_tiff.proofs.judging.judge_strips.Given as goal

abbrev pub invariant-loop-k : goal.invariant-loop-k
invariant-loop-k l = HasJudged l.bytes l.layout l.k
