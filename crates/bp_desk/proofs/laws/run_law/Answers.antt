use Rattle.bp_desk.proofs.LawLemmas.{run_law}
use Rattle.bp_desk.proofs.laws.run_law.Goals as goal

pub returns : goal.returns
returns c = run_law
