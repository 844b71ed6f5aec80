use Rattle.bp_tiff.specs.Passed.{IsPassed, IsTurned}
use Rattle.bp_tiff.proofs.passes.reverse_bytes.Given as goal

abbrev pub invariant-loop-byte : goal.invariant-loop-byte
invariant-loop-byte l = IsPassed IsTurned l.byte-index l.initial.rows l.rows
