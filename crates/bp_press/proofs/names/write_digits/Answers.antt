use Rattle.std.proofs.Common.{◌-◌, ◌∙◌, arith}
use Rattle.bp_bates.proofs.LabelLemmas.{padded_start, padded_step, padded_end}
use Rattle.bp_press.proofs.names.write_digits.Goals as goal

pub loop-place-init : goal.loop-place-init
loop-place-init c = padded_start c.args.into.now c.args.number

pub loop-place-preserved : goal.loop-place-preserved
loop-place-preserved c =
    padded_step c.loop-place.into c.loop-place.place (c.loop-place.place - 1) c.loop-place.rest (omega arith) (omega arith) ∙ c.loop-place.invariant

pub returns : goal.returns
returns c = padded_end c.loop-place.into c.loop-place.place c.loop-place.rest (omega arith) ∙ c.loop-place.invariant
