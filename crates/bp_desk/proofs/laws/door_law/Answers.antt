use Rattle.bp_desk.proofs.LawLemmas.{door_law}
use Rattle.bp_desk.proofs.laws.door_law.Goals as goal

pub returns : goal.returns
returns c = door_law
