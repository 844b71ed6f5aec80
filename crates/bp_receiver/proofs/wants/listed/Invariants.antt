use Rattle.std.proofs.Common.{◌≡◌, ◌++◌, length}
use Rattle.bp_receiver.specs.Owed.{rows_left}
use Rattle.bp_receiver.proofs.wants.listed.Given as goal

-- the rows so far and those that are left are those of the list
abbrev pub invariant-loop-row : goal.invariant-loop-row
invariant-loop-row l = l.rows.items ++ rows_left l.left ≡ rows_left l.fn.list

abbrev pub decreases-loop-row : goal.decreases-loop-row
decreases-loop-row l = length (rows_left l.left)
