use Rattle.std.proofs.Common.{◌*◌}
use Rattle.bp_rows.specs.Bits.{Blackens}
use Rattle.bp_rows.proofs.bits.blacken_bytes.Given as goal

abbrev pub invariant-loop-i : goal.invariant-loop-i
invariant-loop-i l = Blackens (8 * l.first) (8 * l.i) l.initial.bytes l.bytes
