use Rattle.std.proofs.Common.{arith, ◌∙◌}
use Rattle.bp_rows.proofs.PaintLemmas.{word_put}
use Rattle.bp_rows.proofs.paint.put_word.Goals as goal

pub returns-clause-pixels : goal.returns-clause-pixels
returns-clause-pixels c = λ i.
    word_put c.args.row.now c.copy_from_slice.new.self c.args.word c.args.pixels _ i (omega arith) (omega arith) (omega (arith, c.copy_from_slice.ensures.len)) (c.copy_from_slice.ensures.after ∙ c.to_be_bytes.ensures)
