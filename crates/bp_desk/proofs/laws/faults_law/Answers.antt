use Rattle.bp_desk.proofs.LawLemmas.{faults_law}
use Rattle.bp_desk.proofs.laws.faults_law.Goals as goal

pub returns : goal.returns
returns c = faults_law
