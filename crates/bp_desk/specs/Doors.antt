-- Serving doors at the seats of a desk: what it comes to for a seat, by specs/Serving.antt.
use Rattle.std.specs.Prelude.{◌≡◌, ℕ, ◌-◌, ◌^◌, nat_le, if◌then◌else◌}
use Rattle.bp_outside.specs.Door.{DoorView}
use Rattle.bp_book.specs.History.{HistoryView}
use Rattle.bp_desk.specs.Serving.{Knocks, ServesCallDoor}
use Rattle.bp_desk.specs.Calls.{calls_by}
use Rattle.bp_desk.specs.Seats.{SameSeat, SeatView}
use Rattle.bp_desk.specs.declared.views.View.{View}

-- the greatest count of faults, at which one stands still
abbrev pub most : ℕ
most = 2 ^ 64 - 1

-- How often the keeper failed at the calls of a seat: what its own turns raised the keeper's count by.
-- Where that count stands still, no less than any number of faults.
abbrev pub own_faults : View → ℕ
own_faults v = if nat_le most v.left then most else v.raised

-- what is known of the history at a seat
abbrev pub history_at : View → HistoryView
history_at v =
    record { opening = v.opening; calls = v.seen; room = v.room; faults = own_faults v }

-- a door was served at a seat for so many connections; its own calls are then those of its number in
-- what it has seen
pub record ServesAt (connections : ℕ) (seat : SeatView) (door : DoorView) (seat' : SeatView)
    (door' : DoorView) : Type 0 where
  pub served : ServesCallDoor seat.view.number connections (history_at seat.view) door
      (history_at seat'.view) door'
  pub same : SameSeat seat seat'
  pub own : calls_by seat'.view.number seat'.view.seen ≡ seat'.view.mine

-- the same of a door whose shows tells what is known of it; once found closed it isn't knocked at
-- again
pub record ServesFor {D : Type 0} (shows : D → DoorView) (connections : ℕ) (seat : SeatView)
    (door : D) (seat' : SeatView) (door' : D) : Type 0 where
  pub at : ServesAt connections seat (shows door) seat' (shows door')
  pub knocks : Knocks shows connections door door'
