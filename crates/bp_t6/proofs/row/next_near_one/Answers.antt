use Rattle.bp_t6.proofs.PlaceLemmas.{odd_steps}
use Rattle.bp_t6.proofs.row.next_near_one.Goals as goal

pub returns-clause-colour : goal.returns-clause-colour
returns-clause-colour c = odd_steps c.args.start c.from.result
