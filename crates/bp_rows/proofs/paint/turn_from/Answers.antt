use Rattle.bp_rows.proofs.PaintLemmas.{turned_bit}
use Rattle.bp_rows.proofs.paint.turn_from.Goals as goal

pub returns : goal.returns
returns c = λ i small. turned_bit c.args.pixels c.args.first i c.requires small
