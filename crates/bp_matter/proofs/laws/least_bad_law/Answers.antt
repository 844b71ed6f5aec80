use Rattle.bp_matter.proofs.LeastBadLemmas.{finds_least_bad}
use Rattle.bp_matter.proofs.laws.least_bad_law.Goals as goal

pub returns : goal.returns
returns c = finds_least_bad
