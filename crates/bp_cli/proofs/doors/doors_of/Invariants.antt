use Rattle.std.proofs.Common.{◌-◌, ◌≡◌, ◌≤◌, map}
use Rattle.bp_outside.specs.declared.system.tcp_door.TheConstants.{DESK_LIMIT}
use Rattle.bp_cli.specs.Doors.{ports_to}
use Rattle.bp_cli.proofs.doors.doors_of.Given as goal

-- those of the first desks
abbrev pub invariant-loop-desk : goal.invariant-loop-desk
invariant-loop-desk g l =
    (l.desk ≤ DESK_LIMIT)
    × (map (λ door. door.port) l.doors.items ≡ ports_to l.desk)

abbrev pub decreases-loop-desk : goal.decreases-loop-desk
decreases-loop-desk g l = DESK_LIMIT - l.desk
