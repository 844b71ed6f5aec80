use Rattle.bp_tiff.proofs.JudgeLemmas.{exactly_judged}
use Rattle.bp_tiff.proofs.PageRuleLemmas.{result_meets}
use Rattle.bp_tiff.proofs.judging.judge_tiff.Goals as goal

pub returns-clause-exact : goal.returns-clause-exact
returns-clause-exact c answer its =
    exactly_judged c.one_answer.ensures.only c.args.bytes.now c.judge.result c.judge.ensures.found c.judge.ensures.refused answer its

pub returns-clause-kind : goal.returns-clause-kind
returns-clause-kind c = result_meets c.args.bytes.now c.judge.result c.judge.ensures.refused
