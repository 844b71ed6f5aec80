use Rattle.bp_rows.specs.Bits.{AreBytes}
use Rattle.bp_rows.specs.Cleared.{IsCleared}
use Rattle.bp_rows.proofs.bits.clear_ends.Given as goal

abbrev pub invariant-loop-r : goal.invariant-loop-r
invariant-loop-r l = record { cleared : IsCleared l.width l.r l.initial.bytes l.bytes; fit : AreBytes l.bytes }
