use Rattle.bp_desk.proofs.LawLemmas.{seats_law}
use Rattle.bp_desk.proofs.laws.seats_law.Goals as goal

pub returns : goal.returns
returns c = seats_law
