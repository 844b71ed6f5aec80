use Rattle.bp_demo.proofs.AnswerLemmas.{no_step_refused}
use Rattle.bp_demo.proofs.ResponsiveLemmas.{freezes_responsive}
use Rattle.bp_demo.proofs.laws.demo_law.Goals as goal

pub returns-clause-steps : goal.returns-clause-steps
returns-clause-steps c = no_step_refused

pub returns-clause-freeze : goal.returns-clause-freeze
returns-clause-freeze c = freezes_responsive
