use Rattle.bp_tiff.proofs.OneAnswerLemmas.{exactly}
use Rattle.bp_tiff.proofs.PageRuleLemmas.{result_meets}
use Rattle.bp_tiff.proofs.reading.take_tiff.Goals as goal

pub returns-clause-exact : goal.returns-clause-exact
returns-clause-exact c answer its =
    exactly c.one_answer.ensures.only c.args.file.items c.take_over.result c.take_over.ensures.found c.take_over.ensures.refused answer its

pub returns-clause-kind : goal.returns-clause-kind
returns-clause-kind c = result_meets c.args.file.items c.take_over.result c.take_over.ensures.refused
