use Rattle.bp_rows.specs.Bits.{HasBlankEnds}
use Rattle.bp_rows.proofs.bits.has_blank_ends.Given as goal

abbrev pub invariant-loop-r : goal.invariant-loop-r
invariant-loop-r l = HasBlankEnds l.width l.r l.bytes
