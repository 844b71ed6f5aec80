use Rattle.std.proofs.Common.{◌≡◌, length}
use Rattle.std.specs.Option.{option_copied}
use Rattle.bp_load.specs.Dat.{each_value, values_of_line}
use Rattle.bp_load.specs.Fields.{fields_in}
use Rattle.bp_load.proofs.DatLemmas.{values_after}
use Rattle.bp_load.proofs.dat.read_values.Given as goal

-- the values so far and those of the pieces that are left are those of the line
abbrev pub invariant-loop-rest : goal.invariant-loop-rest
invariant-loop-rest l = values_after l.values.items (each_value (fields_in 0x14 (option_copied l.rest))) ≡ values_of_line l.fn.line

abbrev pub decreases-loop-rest : goal.decreases-loop-rest
decreases-loop-rest l = length (fields_in 0x14 (option_copied l.rest))
