use Rattle.bp_t6.proofs.SameRowLemmas.{ones_code, ones_small}
use Rattle.bp_t6.proofs.same_row.ones.Goals as goal

pub returns-clause-fits : goal.returns-clause-fits
returns-clause-fits c = ones_small c.args.len c.requires

pub returns-clause-bits : goal.returns-clause-bits
returns-clause-bits c = ones_code c.args.len c.requires
