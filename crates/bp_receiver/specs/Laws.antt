-- The laws of the receiver's desk.
use Rattle.std.specs.Prelude.{◌≡◌, ℕ, List, ◌∷◌, ◌++◌}
use Rattle.bp_matter.specs.Matter.{Matter}
use Rattle.bp_receiver.specs.Events.{event_of, key_of, event_run}
use Rattle.bp_receiver.specs.Outlines.{SameOutline}
use Rattle.bp_receiver.specs.Receiving.{receive}
use Rattle.bp_receiver.specs.Twins.{AllAgree, IsReceiver, Twins, over}
use Rattle.bp_receiver.specs.declared.events.Event.{Event}
use Rattle.bp_receiver.specs.declared.events.Wanted.{Wanted}
use Rattle.bp_receiver.specs.declared.grants.Grant.{Grant}

-- a want of a receiver has the same answer in two matters that it can't tell apart
abbrev pub WantLaw : Type 0
WantLaw =
    (grants : List Grant) (s : ℕ) (m n : Matter) (key : List ℕ) (wanted : Wanted)
    → Twins grants s m n
    → IsReceiver m key s
    → receive m grants key wanted ≡ receive n grants key wanted

-- an event of a receiver, after others, is answered alike in both
abbrev pub AnsweredAlike : Matter → Matter → List Grant → ℕ → List Event → Event → Type 0
AnsweredAlike m n grants s first event =
    let a = event_run (over m grants) first in
    let b = event_run (over n grants) first in
    IsReceiver a.matter (key_of event) s → (event_of a event).given ≡ (event_of b event).given

-- what a list of events does in two matters with one outline
pub record RunsAlike (m n : Matter) (grants : List Grant) (events : List Event) : Type 0 where
  pub grants_alike : (event_run (over m grants) events).grants
      ≡ (event_run (over n grants) events).grants
  pub matters_alike :
      SameOutline (event_run (over m grants) events).matter
      (event_run (over n grants) events).matter
  pub answers_alike : (s : ℕ) (first more : List Event) (event : Event)
      → events ≡ first ++ event ∷ more
      → AllAgree (event_run (over m grants) events) s m n
      → AnsweredAlike m n grants s first event

-- two matters with one outline: a list of events does the same in both, as far as receivers see
abbrev pub EventsLaw : Type 0
EventsLaw =
    (m n : Matter) (grants : List Grant) (events : List Event)
    → SameOutline m n
    → RunsAlike m n grants events
