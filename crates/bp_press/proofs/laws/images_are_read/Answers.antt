use Rattle.bp_press.proofs.ReadLemmas.{read-back}
use Rattle.bp_press.proofs.laws.images_are_read.Goals as goal

pub returns : goal.returns
returns c = read-back c.written_is_read.ensures
