use Rattle.std.proofs.Common.{◌∙◌, sym}
use Rattle.bp_rows.proofs.PaintLemmas.{black_word}
use Rattle.bp_rows.proofs.paint.colour_word.Goals as goal

pub returns-then-black : goal.returns-then-black
returns-then-black c = λ i small. black_word i small ∙ sym c.if-black.true
