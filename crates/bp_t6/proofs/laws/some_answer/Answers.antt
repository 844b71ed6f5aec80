use Rattle.bp_t6.proofs.SomeAnswerLemmas.{some_answer}
use Rattle.bp_t6.proofs.laws.some_answer.Goals as goal

pub returns : goal.returns
returns c = some_answer
