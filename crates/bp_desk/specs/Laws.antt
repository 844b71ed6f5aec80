-- Laws of what a desk comes to.
use Rattle.std.specs.Prelude.{◌≡◌, ℕ, ◌<◌, ◌≤◌, nat_le, List, [], ◌∷◌, length, map, sum, if◌then◌else◌}
use Rattle.bp_keep.specs.Keeper.{KeeperView}
use Rattle.bp_matter.specs.Matter.{Matter}
use Rattle.bp_outside.specs.Door.{DoorView}
use Rattle.bp_rules.specs.Running.{run_of}
use Rattle.bp_rules.specs.declared.histories.RunStep.{RunStep}
use Rattle.bp_rules.specs.declared.histories.RunStep.TheVariants as asks
use Rattle.bp_book.specs.Calls.{run_calls}
use Rattle.bp_book.specs.declared.history.Made.{Made}
use Rattle.bp_desk.specs.Run.{DoorServed}
use Rattle.bp_desk.specs.Serving.{RoseBy}
use Rattle.bp_desk.specs.Seats.{AreSeats, SeatsClose, Desked, IsSeatOf, SameSeat, SeatCloses, SeatView, all_fresh}
use Rattle.bp_desk.specs.Doors.{ServesAt, most, own_faults}

-- a call as it is asked for where there is no desk
abbrev pub step_without_desk : Made → RunStep
step_without_desk made = asks.Call made.key made.call

-- the matter after calls at a desk is that after the same calls without one
abbrev pub RunLaw : Type 0
RunLaw = (m : Matter) (calls : List Made)
    → run_calls m calls ≡ run_of m (map step_without_desk calls)

-- A door was served at a seat that had seen nothing, and the desk is closed: the door's new exchanges
-- use up the calls of the seat in the whole history.
abbrev pub DoorLaw : Type 0
DoorLaw = (desk : Desked) (history : List Made) (count connections : ℕ) (seat seat' : SeatView)
    (door door' : DoorView) → IsSeatOf desk seat → seat.view.seen ≡ []
    → (serves : ServesAt connections seat door seat' door') → SeatCloses history count seat'
    → length history ≤ desk.book.room
    → DoorServed desk.book.opening history desk.book.room seat.view.number connections
    serves.served.serves.faults door door'

-- the faults of a seat's own when it is dealt
abbrev pub start_faults : ℕ → ℕ
start_faults base = if nat_le most base then most else 0

-- the faults of each seat's own rose by so many at least since it was dealt
abbrev pub FaultsRose : ℕ → List SeatView → List ℕ → Type 0
FaultsRose base [] [] = Unit {0}
FaultsRose base [] (n ∷ counts) = ⊥
FaultsRose base (seat ∷ seats) [] = ⊥
FaultsRose base (seat ∷ seats) (n ∷ counts) =
    RoseBy n (start_faults base) (own_faults seat.view) × FaultsRose base seats counts

-- over all seats together the keeper failed at least as often as was answered at them
abbrev pub FaultsLaw : Type 0
FaultsLaw = (desk : Desked) (seats : List SeatView) (history : List Made) (matter : Matter)
    (keeper : KeeperView) (counts : List ℕ) → SeatsClose desk seats history matter keeper
    → FaultsRose desk.book.keeper.faults seats counts
    → RoseBy (sum counts) desk.book.keeper.faults keeper.faults

-- these are the same seats, in order
abbrev pub SameSeats : List SeatView → List SeatView → Type 0
SameSeats [] [] = Unit {0}
SameSeats [] (b ∷ after) = ⊥
SameSeats (a ∷ before) [] = ⊥
SameSeats (a ∷ before) (b ∷ after) = SameSeat a b × SameSeats before after

-- the seats that were dealt at the start, whatever was done at them, are all seats of the desk
abbrev pub SeatsLaw : Type 0
SeatsLaw = (desk : Desked) (seats : List SeatView) → 0 < desk.seats
    → SameSeats (all_fresh desk) seats → AreSeats desk seats
