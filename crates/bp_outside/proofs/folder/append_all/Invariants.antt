use Rattle.std.proofs.Common.{length, ◌-◌, ◌≡◌, ◌≤◌, take}
use Rattle.bp_outside.specs.Folder.{with_bytes}
use Rattle.bp_outside.proofs.folder.append_all.Given as goal

abbrev pub invariant-loop-at : goal.invariant-loop-at
invariant-loop-at g l =
    (l.at ≤ length l.piece)
    × (g.F.Folder.shows l.folder
    ≡ with_bytes (g.F.Folder.shows l.initial.folder) (take l.at l.piece))

abbrev pub decreases-loop-at : goal.decreases-loop-at
decreases-loop-at g l = length l.piece - l.at
