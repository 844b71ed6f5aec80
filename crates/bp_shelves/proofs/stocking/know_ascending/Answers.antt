use Rattle.bp_shelves.proofs.ShelfLemmas.{rows_on-ascends}
use Rattle.bp_shelves.proofs.stocking.know_ascending.Goals as goal

pub returns : goal.returns
returns g c = rows_on-ascends g.T.Keyed.key_of g.T.Shelved.span 0 c.args.shelves.now c.requires
