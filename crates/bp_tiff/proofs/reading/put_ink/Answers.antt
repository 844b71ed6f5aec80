use Rattle.std.proofs.Common.{not, cond, Bool, arith, ◌∙◌, ap, sym}
use Rattle.bp_rows.specs.Bits.{black_at}
use Rattle.bp_tiff.proofs.TurnedLemmas.{value_over}
use Rattle.bp_tiff.proofs.reading.put_ink.Goals as goal

pub returns-then-coding : goal.returns-then-coding
returns-then-coding c at within =
    value_over c.args.rows.now c.invert_bytes.new.rows at (c.invert_bytes.ensures _ (omega arith))
    ∙ ap (λ (z : Bool). cond z (not (black_at c.args.rows.now at)) (black_at c.args.rows.now at)) (sym c.if-coding.true)
