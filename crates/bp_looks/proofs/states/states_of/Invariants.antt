use Rattle.std.proofs.Common.{◌≡◌, map, take}
use Rattle.bp_looks.specs.States.{state_row}
use Rattle.bp_looks.proofs.states.states_of.Given as goal

-- those so far
abbrev pub invariant-loop-i : goal.invariant-loop-i
invariant-loop-i l = l.states.items ≡ map (state_row l.tables.matter) (take l.i l.docs)
