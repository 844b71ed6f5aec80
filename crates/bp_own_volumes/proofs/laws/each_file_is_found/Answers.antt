use Rattle.bp_own_volumes.proofs.OwnLemmas.{volume_apart, volume_found}
use Rattle.bp_own_volumes.proofs.laws.each_file_is_found.Goals as goal

pub returns-clause-differ : goal.returns-clause-differ
returns-clause-differ c = volume_apart

pub returns-clause-found : goal.returns-clause-found
returns-clause-found c = volume_found
