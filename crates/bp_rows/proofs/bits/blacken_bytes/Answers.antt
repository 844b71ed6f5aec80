use Rattle.std.proofs.Common.{◌+◌, ◌*◌, ◌<◌, length, arith}
use Rattle.bp_rows.proofs.ByteLemmas.{whole_byte, blackens_more}
use Rattle.bp_rows.proofs.bits.blacken_bytes.Goals as goal

pub loop-i-preserved : goal.loop-i-preserved
loop-i-preserved c =
    let within : c.loop-i.i < length c.loop-i.bytes = omega arith in
    blackens_more (8 * c.args.first) (8 * c.loop-i.i) (8 * (c.loop-i.i + 1)) c.args.bytes.now c.loop-i.bytes _ (omega arith)
    (omega arith) c.loop-i.invariant (whole_byte c.loop-i.bytes c.loop-i.i within)
