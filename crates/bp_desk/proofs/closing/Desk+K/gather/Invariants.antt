use Rattle.std.proofs.Common.{◌≡◌}
use Rattle.std.specs.Prelude.{All}
use Rattle.bp_desk.specs.Closing.{Gathering}
use Rattle.bp_desk.specs.Seats.{IsSeatOf}
use Rattle.bp_desk.proofs.closing.Desk+K.gather.Given as goal

abbrev pub invariant-loop-seat : goal.invariant-loop-seat
invariant-loop-seat g l =
    (l.place.table_id ≡ l.self.id) × All (IsSeatOf l.self) l.rest.items
    × Gathering l.fn.seats.items l.rest.items l.place.me.0

abbrev pub decreases-loop-seat : goal.decreases-loop-seat
decreases-loop-seat g l = goal.left-loop-seat g l
