-- What serving a door comes to: its exchanges, in order, use up the events that were made, in order.
use Rattle.std.specs.Prelude.{◌≡◌, ℕ, ◌+◌, Bool, true, false, List, [], ◌∷◌, ◌++◌, Result, Ok, Err}
use Rattle.bp_core.specs.declared.rules.Rule.{Rule}
use Rattle.bp_outside.specs.declared.exchange.Exchange.{Exchange}
use Rattle.bp_web.specs.Heads.{NeverBegins, start_of}
use Rattle.bp_web.specs.Replies.{reply_text}
use Rattle.bp_web.specs.declared.refusals.WebRefusal.{WebRefusal}
use Rattle.bp_web.specs.declared.replies.Answer.TheVariants as answers
use Rattle.bp_outside.specs.Input.{WasNeeded}
use Rattle.bp_doors.specs.Exchanges.{Sent, WasRead, WasRefused, memory_text}
use Rattle.bp_receiver.specs.Delivering.{IsReview}
use Rattle.bp_receiver.specs.EventReplies.{event_text}
use Rattle.bp_receiver.specs.EventRequests.{EventReadAlike, EventReads, IsWholeEvent}
use Rattle.bp_receiver.specs.Events.{Holding, event_of}
use Rattle.bp_receiver.specs.declared.events.Event.{Event}
use Rattle.bp_receiver.specs.declared.events.Given.{Given}

-- ---- what was read

-- what is told of bytes: whatever follows, they are read as the same request; or no whole one is
-- there, and one can come
abbrev pub TellsEvent : List ℕ → Bool → Type 0
TellsEvent bytes true = (more : List ℕ) → EventReadAlike (bytes ++ more) bytes
TellsEvent bytes false = ¬ (IsWholeEvent bytes) × ¬ (NeverBegins (start_of bytes))

-- reading stopped because the bytes were enough, or at the end of input, and went on no further than
-- was needed
abbrev pub WasReadEvent : Exchange → Type 0
WasReadEvent x = WasRead TellsEvent x

-- the bytes read ask for this
abbrev pub AsksFor : Exchange → Event → Type 0
AsksFor x event = EventReads x.read (Ok event)

-- ---- the events that were made

-- what was asked, and the answer at its place
pub record EventTurn : Type 0 where
  pub asked : Event
  pub answer : Result Given Rule

-- an event at the desk at its place
abbrev pub event_turn : Holding → Event → EventTurn
event_turn h event = record { asked = event; answer = (event_of h event).given }

-- events in turn, each with the answer at its place
abbrev pub event_turns : Holding → List Event → List EventTurn
event_turns h [] = []
event_turns h (event ∷ more) = event_turn h event ∷ event_turns (event_of h event).after more

-- ---- what was sent

-- what may be sent in an exchange that made this event: its answer, or that memory ran out for it
pub data TextOfEvent (turn : EventTurn) (x : Exchange) (text : List ℕ) : Type 0 where
  given : AsksFor x turn.asked → WasReadEvent x → text ≡ event_text turn.answer
      → TextOfEvent turn x text
  not_given : AsksFor x turn.asked → WasReadEvent x → text ≡ memory_text
      → TextOfEvent turn x text

-- What may be sent in one that made no event: why the bytes are no request; that the keeper failed, at
-- a call that alters what is kept, which counts as one; that memory ran out; or nothing, where a read
-- was refused that was still needed.
pub data TextOfNoEvent (Alters : Event → Type 0) (x : Exchange) (text : List ℕ) : ℕ → Type 0 where
  refusal : (why : WebRefusal) → EventReads x.read (Err why) → WasReadEvent x
      → text ≡ reply_text (answers.Web why) → TextOfNoEvent Alters x text 0
  fault : (event : Event) → IsReview event → AsksFor x event → WasReadEvent x → Alters event
      → text ≡ reply_text answers.KeeperFault → TextOfNoEvent Alters x text 1
  no_memory : WasNeeded TellsEvent x.read → text ≡ memory_text → TextOfNoEvent Alters x text 0
  no_read : TellsEvent x.read false → WasRefused x → text ≡ [] → TextOfNoEvent Alters x text 0

-- Delivered: the exchanges of a door, in order, use up these events, in order, and none is left over.
-- Each was hung up. So many were answered that the keeper failed, each at a call that alters what is
-- kept.
pub data Delivered (Alters : Event → Type 0) : List EventTurn → ℕ → List Exchange → Type 0 where
  nobody : Delivered Alters [] 0 []
  made : (turn : EventTurn) (left : List EventTurn) (faults : ℕ) (x : Exchange)
      (others : List Exchange) (text : List ℕ)
      → x.hung_up ≡ true → TextOfEvent turn x text → Sent x text
      → Delivered Alters left faults others
      → Delivered Alters (turn ∷ left) faults (x ∷ others)
  unmade : (left : List EventTurn) (here faults : ℕ) (x : Exchange) (others : List Exchange)
      (text : List ℕ)
      → x.hung_up ≡ true → TextOfNoEvent Alters x text here → Sent x text
      → Delivered Alters left faults others
      → Delivered Alters left (here + faults) (x ∷ others)
