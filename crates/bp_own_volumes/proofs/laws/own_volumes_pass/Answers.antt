use Rattle.bp_own_volumes.proofs.OwnLemmas.{own_answered, own_passes}
use Rattle.bp_own_volumes.proofs.laws.own_volumes_pass.Goals as goal

pub returns-clause-passes : goal.returns-clause-passes
returns-clause-passes c = own_passes c.one_answer.ensures.only c.images_are_read.ensures

pub returns-clause-answered : goal.returns-clause-answered
returns-clause-answered c = own_answered c.one_answer.ensures.only c.one_answer.ensures.some c.images_are_read.ensures
