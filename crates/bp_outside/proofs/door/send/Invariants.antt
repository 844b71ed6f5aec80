use Rattle.std.proofs.Common.{length, ◌-◌, ◌≡◌, ◌≤◌, take}
use Rattle.bp_outside.specs.Door.{changed, wrote}
use Rattle.bp_outside.proofs.door.send.Given as goal

abbrev pub invariant-loop-at : goal.invariant-loop-at
invariant-loop-at g l =
    (l.at ≤ length l.piece)
    × (g.D.Door.shows l.door ≡ changed (wrote (take l.at l.piece)) (g.D.Door.shows l.initial.door))

abbrev pub decreases-loop-at : goal.decreases-loop-at
decreases-loop-at g l = length l.piece - l.at
