-- What serving comes to by the whole history, once it is closed.
use Rattle.std.specs.Prelude.{◌≡◌, ℕ, ◌≤◌, ◌==◌, Bool, false, List, [], ◌++◌, length}
use Rattle.std.specs.Option.{option_map}
use Rattle.bp_matter.specs.Matter.{Matter}
use Rattle.bp_outside.specs.Door.{DoorView}
use Rattle.bp_outside.specs.declared.exchange.Exchange.{Exchange}
use Rattle.bp_web.specs.declared.requests.Asked.{Asked}
use Rattle.bp_book.specs.Calls.{AltersAmong}
use Rattle.bp_book.specs.History.{AreOthers, HistoryView, turns_of}
use Rattle.bp_book.specs.declared.history.Made.{Made}
use Rattle.bp_desk.specs.Served.{Served}
use Rattle.bp_desk.specs.Serving.{AreAnswered, Returned, ServesCallDoor, raised}

-- the history has as many calls as there is room for
abbrev pub fills : List Made → ℕ → Bool
fills history room = length history == room

-- a call for what was asked alters the matter behind some beginning of a history
abbrev pub AltersIn : Matter → List Made → Asked → Type 0
AltersIn opening history asked = AltersAmong opening history asked.key asked.call

-- A door was served for its seat: so many accepts were tried, or the last of fewer found it closed;
-- its new exchanges use up the calls of the seat in the history, and so many of them were answered
-- that the keeper failed, each at a call that alters the matter at some place of the history. Where
-- the history isn't full and there were none of these, each exchange that was not cut or out of
-- memory was answered.
pub record DoorServed (opening : Matter) (history : List Made) (room seat connections faults : ℕ)
    (door door' : DoorView) : Type 0 where
  pub exchanges : List Exchange
  pub tried : ℕ
  pub told : door'.exchanges ≡ option_map (λ old. old ++ exchanges) door.exchanges
  pub accepts : door'.accepts ≡ raised tried door.accepts
  pub returned : Returned connections tried door'
  pub served : Served (AltersIn opening history) (fills history room) room
      (turns_of seat opening history) faults exchanges
  pub complete : fills history room ≡ false → faults ≡ 0
      → AreAnswered (turns_of seat opening history) exchanges

-- who had seen no call served a door for a seat; what was seen then begins the history, which has
-- no other call of the seat
abbrev pub SeatLaw : Type 0
SeatLaw = (seat connections room : ℕ) (before after : HistoryView) (door door' : DoorView)
    (history rest : List Made) (serves : ServesCallDoor seat connections before door after door')
    → before.calls ≡ [] → before.room ≡ room
    → history ≡ after.calls ++ rest → AreOthers seat rest → length history ≤ room
    → DoorServed before.opening history room seat connections serves.serves.faults door door'
