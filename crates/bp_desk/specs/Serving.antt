-- Serving a door, accept by accept: what it comes to for who serves it, a book or a seat.
use Rattle.std.specs.Prelude.{◌≡◌, ◌≢◌, ℕ, Bool, true, false, List, [], ◌++◌, slice_get, Some}
use Rattle.std.specs.Option.{option_map}
use Rattle.bp_core.specs.Counts.{Rose}
use Rattle.bp_outside.specs.Door.{DoorView}
use Rattle.bp_outside.specs.declared.exchange.Exchange.{Exchange}
use Rattle.bp_web.specs.Replies.{reply_text}
use Rattle.bp_web.specs.declared.requests.Asked.{Asked}
use Rattle.bp_book.specs.Calls.{AltersAmong}
use Rattle.bp_book.specs.History.{Grew, HistoryView, Turn, is_full, matter_of, turns_of}
use Rattle.bp_book.specs.declared.history.Made.{Made}
use Rattle.bp_doors.specs.Exchanges.{memory_text}
use Rattle.bp_doors.specs.Serving.{InTurn}
pub use Rattle.bp_doors.specs.Serving.{Knocks, Returned, RoseBy, raised}
use Rattle.bp_desk.specs.Exchanges.{Deals}
use Rattle.bp_desk.specs.Served.{Asks, Served, WasReadWhole}

-- a call for what was asked alters the matter behind some beginning of the calls that came
abbrev pub AltersSince : HistoryView → List Made → Asked → Type 0
AltersSince before made asked = AltersAmong (matter_of before) made asked.key asked.call

-- what an exchange did at a seat, whether or not something was made in it
abbrev pub DealsAt : ℕ → HistoryView → Exchange → Bool → HistoryView → Type 0
DealsAt seat before x made after = Deals seat before x after

-- So many accepts were tried: the door has these new exchanges, the history these new calls, and
-- the exchanges use up those of the seat. The keeper failed at least as often as was answered, and
-- in the very exchanges: from what was known before each to what was known after it. A full history
-- has no new calls.
pub record ServesCalls (seat tried : ℕ) (before : HistoryView) (door : DoorView)
    (after : HistoryView) (door' : DoorView) : Type 0 where
  pub exchanges : List Exchange
  pub made : List Made
  pub faults : ℕ
  pub told : door'.exchanges ≡ option_map (λ old. old ++ exchanges) door.exchanges
  pub accepts : door'.accepts ≡ raised tried door.accepts
  pub grew : Grew before made after
  pub last : is_full before ≡ true → made ≡ []
  pub served : Served (AltersSince before made) (is_full after) after.room
      (turns_of seat (matter_of before) made) faults exchanges
  pub rose : RoseBy faults before.faults after.faults
  pub counted : ℕ
  pub dealt : InTurn (DealsAt seat) before exchanges counted after

-- the call of an exchange was made, and its reply was written
pub record IsAnswered (turns : List Turn) (x : Exchange) : Type 0 where
  pub place : ℕ
  pub turn : Turn
  pub there : slice_get turns place ≡ Some turn
  pub asked : Asks x turn.asked
  pub read : WasReadWhole x
  pub written : x.written ≡ reply_text turn.answer

-- each exchange that asks for a call, in which no read or write was refused, and which wasn't
-- answered that memory ran out, was answered
abbrev pub AreAnswered : List Turn → List Exchange → Type 0
AreAnswered turns exchanges =
    (k : ℕ) (x : Exchange) (asked : Asked) → slice_get exchanges k ≡ Some x → Asks x asked
    → x.failed ≡ false → x.lacked ≡ false → x.written ≢ memory_text → IsAnswered turns x

-- A door was served for so many connections. Where the history isn't full and the keeper's count
-- didn't rise, each exchange that was not cut or out of memory was answered.
pub record ServesCallDoor (seat connections : ℕ) (before : HistoryView) (door : DoorView)
    (after : HistoryView) (door' : DoorView) : Type 0 where
  pub tried : ℕ
  pub serves : ServesCalls seat tried before door after door'
  pub returned : Returned connections tried door'
  pub complete : is_full after ≡ false → ¬ (Rose before.faults after.faults)
      → AreAnswered (turns_of seat (matter_of before) serves.made) serves.exchanges
