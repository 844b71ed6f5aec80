use Rattle.std.proofs.Common.{◌≡◌, ◌-◌, ◌≤◌, [], vec_capacity}
use Rattle.bp_desk.specs.Seats.{fresh, others}
use Rattle.bp_desk.proofs.starting.Desk+K.deal.Given as goal

abbrev pub decreases-loop-dealt : goal.decreases-loop-dealt
decreases-loop-dealt g l = l.self.seats - l.dealt

abbrev pub invariant-loop-dealt : goal.invariant-loop-dealt
invariant-loop-dealt g l =
    (1 ≤ l.dealt) × (l.dealt ≤ l.self.seats) × (l.first.table_id ≡ l.self.id)
    × (l.first.me ≡ ((fresh l.self 1 l.dealt).view, []))
    × (l.row.items ≡ others l.self (l.dealt - 1)) × (l.self.seats ≤ vec_capacity l.row)
