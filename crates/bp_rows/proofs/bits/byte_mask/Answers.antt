use Rattle.std.proofs.Common.{◌-◌, arith}
use Rattle.bp_rows.proofs.ByteLemmas.{one_shl, mask_bit, pow_ordered}
use Rattle.bp_rows.proofs.bits.byte_mask.Goals as goal

pub returns : goal.returns
returns c j low =
    rw (one_shl (8 - c.args.from) (omega arith), one_shl (8 - c.args.to) (omega arith))
    (mask_bit c.args.from c.args.to j c.requires.order c.requires.end low)

pub overflow_sub-result-3 : goal.overflow_sub-result-3
overflow_sub-result-3 c =
    rw (one_shl (8 - c.args.from) (omega arith), one_shl (8 - c.args.to) (omega arith))
    (pow_ordered (8 - c.args.to) (8 - c.args.from) (omega arith))
