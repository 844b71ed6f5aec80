use Rattle.std.proofs.Common.{arith, ◌∙◌, ap, sym}
use Rattle.bp_tiff.specs.Pixels.{bit_in}
use Rattle.bp_tiff.proofs.TurnedLemmas.{value_turned}
use Rattle.bp_tiff.proofs.reading.put_in_order.Goals as goal

pub returns-then-is_low : goal.returns-then-is_low
returns-then-is_low c at within =
    value_turned c.args.rows.now c.reverse_bytes.new.rows at (c.reverse_bytes.ensures _ (omega arith))
    ∙ ap (λ f. bit_in f c.args.rows.now at) (sym (c.is_low.ensures.low c.if-is_low.true))
