use Rattle.bp_looks.proofs.NextLemmas.{next-found}
use Rattle.bp_looks.proofs.laws.next_law.Goals as goal

pub returns : goal.returns
returns c = λ m terms from page good above some. next-found m terms from page good above some
