use Rattle.bp_tiff.specs.Passed.{IsPassed, IsInverted}
use Rattle.bp_tiff.proofs.passes.invert_bytes.Given as goal

abbrev pub invariant-loop-byte : goal.invariant-loop-byte
invariant-loop-byte l = IsPassed IsInverted l.byte-index l.initial.rows l.rows
