use Rattle.std.proofs.Common.{◌≡◌, length}
use Rattle.bp_receiver.specs.Owed.{rows_left}
use Rattle.bp_receiver.proofs.owed.OwedList.next.Given as goal

-- what is left has all that is to be listed
abbrev pub invariant-loop-grant : goal.invariant-loop-grant
invariant-loop-grant l = rows_left l.self ≡ rows_left l.initial.self

abbrev pub decreases-loop-grant : goal.decreases-loop-grant
decreases-loop-grant l = length l.self.grants.now
