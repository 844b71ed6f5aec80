use Rattle.std.proofs.Common.{arith}
use Rattle.bp_tiff.specs.Passed.{IsTurned}
use Rattle.bp_tiff.proofs.TurnedLemmas.{one_passed}
use Rattle.bp_tiff.proofs.passes.reverse_bytes.Goals as goal

pub loop-byte-preserved : goal.loop-byte-preserved
loop-byte-preserved c =
    one_passed IsTurned c.loop-byte.byte-index c.args.rows.now c.loop-byte.rows c.turned.result (omega (arith, c.loop-byte.invariant.long)) c.loop-byte.invariant c.turned.ensures
