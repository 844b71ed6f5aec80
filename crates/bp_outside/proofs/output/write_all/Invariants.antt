use Rattle.std.proofs.Common.{length, ◌-◌, ◌≡◌, ◌≤◌, take}
use Rattle.bp_outside.specs.Out.{with_written}
use Rattle.bp_outside.proofs.output.write_all.Given as goal

abbrev pub invariant-loop-at : goal.invariant-loop-at
invariant-loop-at g l =
    (l.at ≤ length l.piece)
    × (g.O.Out.shows l.out ≡ with_written (g.O.Out.shows l.initial.out) (take l.at l.piece))

abbrev pub decreases-loop-at : goal.decreases-loop-at
decreases-loop-at g l = length l.piece - l.at
