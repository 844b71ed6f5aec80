-- Serving a door of the receiver's desk, exchange by exchange.
use Rattle.std.specs.Prelude.{◌≡◌, ◌≢◌, ℕ, ◌+◌, ◌≤◌, Bool, true, false, List, [], ◌∷◌, ◌++◌, length, Result, Ok, Err, refl}
use Rattle.std.specs.Prelude.{Option, Some, None, IfSome, IsTrue, is_some}
use Rattle.std.specs.Option.{option_map}
use Rattle.std.proofs.Math.Nat.{le-add_right, le_refl}
use Rattle.bp_core.specs.declared.kept.Row.{Row}
use Rattle.bp_keep.specs.Keeper.{KeeperView}
use Rattle.bp_outside.specs.Door.{DoorView}
use Rattle.bp_outside.specs.declared.exchange.Exchange.{Exchange}
use Rattle.bp_rules.specs.Steps.{KeepsRows}
use Rattle.bp_rules.specs.declared.refusals.MatterRefusal.{MatterRefusal}
use Rattle.bp_rules.specs.declared.refusals.MatterRefusal.TheVariants as stops
use Rattle.bp_web.specs.Messages.{message_text}
use Rattle.bp_web.specs.Replies.{reply_text}
use Rattle.bp_web.specs.declared.refusals.WebRefusal.{WebRefusal}
use Rattle.bp_web.specs.declared.refusals.WebRefusal.TheVariants as refusals
use Rattle.bp_web.specs.declared.replies.Answer.TheVariants as answers
use Rattle.bp_doors.specs.Exchanges.{Sent, WasCut, memory_text}
use Rattle.bp_doors.specs.Exchanges.Sent.{whole}
use Rattle.bp_doors.specs.Exchanges.WasCut.{no_read as cut_read, no_room as cut_room}
use Rattle.bp_doors.specs.Serving.{InTurn, Returned, RoseBy, raised}
use Rattle.bp_receiver.specs.Delivered.{AsksFor, Delivered, TellsEvent, TextOfEvent, TextOfNoEvent, WasReadEvent, event_turn, event_turns}
use Rattle.bp_receiver.specs.Delivered.TextOfNoEvent.{no_memory, no_read}
use Rattle.bp_receiver.specs.Delivering.{IsReview}
use Rattle.bp_receiver.specs.EventReplies.{given_message}
use Rattle.bp_receiver.specs.EventRequests.{EventReads}
use Rattle.bp_receiver.specs.Events.{AltersBehind, AltersDesk, Holding, event_of, event_run}
use Rattle.bp_receiver.specs.declared.events.Event.{Event}
use Rattle.bp_receiver.specs.declared.events.Event.TheVariants as events
use Rattle.bp_receiver.specs.declared.events.Given.{Given}

-- ---- what is known

-- what the desk holds, and what its keeper shows
pub record EventDesk : Type 0 where
  pub holding : Holding
  pub keeper : KeeperView

-- both, as contracts see them
abbrev pub desk_view : Holding → KeeperView → EventDesk
desk_view h keeper = record { holding = h; keeper = keeper }

-- A keeper that kept the matter before keeps the matter after, and tells rows only where it told them
-- before; it wasn't asked to load, was asked to commit so often at most, is as sure as it was, and
-- its count of faults didn't fall. Where it may never be asked to commit, nothing was asked of it: rows
-- and counts are as they were.
pub record KeepsOn (most : ℕ) (before after : EventDesk) : Type 0 where
  pub kept : KeepsRows before.keeper before.holding.matter
      → KeepsRows after.keeper after.holding.matter
  pub told : IfSome after.keeper.rows (λ _. IsTrue (is_some before.keeper.rows))
  pub loads : after.keeper.loads ≡ before.keeper.loads
  pub commits : after.keeper.commits ≤ before.keeper.commits + most
  pub sure : after.keeper.sure ≡ before.keeper.sure
  pub faults : before.keeper.faults ≤ after.keeper.faults
  pub quiet : most ≡ 0 → after.keeper ≡ before.keeper

-- whatever a keeper tells, it told
pub told-itself : (rows : Option (List Row)) → IfSome rows (λ _. IsTrue (is_some rows))
told-itself None = tt
told-itself (Some rows) = refl

-- how often an event may ask the keeper to commit: a call once, a grant and a want never
abbrev pub commits_at : Event → ℕ
commits_at (events.Review key call) = 1
commits_at (events.Grant key staff id) = 0
commits_at (events.Want key wanted) = 0

-- the bytes read ask for a call
pub record AsksForCall (x : Exchange) : Type 0 where
  pub event : Event
  pub review : IsReview event
  pub asks : AsksFor x event

-- how often the keeper may be asked to commit in an exchange: once where it asks for a call, and else
-- never, so never at a want
pub data MayCommit (x : Exchange) : ℕ → Type 0 where
  no_call : MayCommit x 0
  at_call : AsksForCall x → MayCommit x 1

-- the same of exchanges in turn
pub data MayCommitIn : ℕ → List Exchange → Type 0 where
  no_exchange : MayCommitIn 0 []
  one_more : (here more : ℕ) (x : Exchange) (others : List Exchange)
      → MayCommit x here → MayCommitIn more others
      → MayCommitIn (here + more) (x ∷ others)

-- ---- an exchange

-- what an exchange did: it made one event, or none
pub data EventDeals (before : EventDesk) (x : Exchange) : Bool → EventDesk → Type 0 where
  made_one : (event : Event) (text : List ℕ) (after : EventDesk)
      → after.holding ≡ (event_of before.holding event).after
      → TextOfEvent (event_turn before.holding event) x text → Sent x text
      → KeepsOn (commits_at event) before after
      → EventDeals before x true after
  made_none : (faults most : ℕ) (text : List ℕ) (after : EventDesk)
      → after.holding ≡ before.holding
      → TextOfNoEvent (AltersDesk before.holding) x text faults → Sent x text
      → RoseBy faults before.keeper.faults after.keeper.faults
      → MayCommit x most → KeepsOn most before after
      → EventDeals before x false after

-- a desk at which nothing was made
pub keeps-all : (d : EventDesk) → KeepsOn 0 d d
keeps-all d = record {
  kept = λ rows. rows;
  told = told-itself d.keeper.rows;
  loads = refl;
  commits = le-add_right d.keeper.commits 0;
  sure = refl;
  faults = le_refl d.keeper.faults;
  quiet = λ _. refl;
}

-- an exchange that came to no answer leaves all
pub cut-off : (d : EventDesk) (x : Exchange) → WasCut TellsEvent x → EventDeals d x false d
cut-off d x (cut_room needed s) =
    let all = keeps-all d in
    made_none 0 0 memory_text d refl (no_memory needed refl) s all.faults no_call all
cut-off d x (cut_read short was none) =
    let all = keeps-all d in
    made_none 0 0 [] d refl (no_read short was refl) (whole none) all.faults no_call all

-- ---- what answers a request

-- bytes were read so, unless memory ran out
abbrev pub ReadsEvent : List ℕ → Result Event WebRefusal → Type 0
ReadsEvent bytes read = read ≢ Err refusals.OutOfMemory → EventReads bytes read

-- what was given, or why nothing was, as the text that is sent
abbrev pub text_for : Result Given MatterRefusal → List ℕ
text_for (Ok given) = message_text (given_message given)
text_for (Err (stops.Rule rule)) = reply_text (answers.Rule rule)
text_for (Err stops.KeeperFault) = reply_text answers.KeeperFault
text_for (Err stops.OutOfMemory) = memory_text

-- whether an event was made, which gave this
abbrev pub is_made : Result Given MatterRefusal → Bool
is_made (Ok given) = true
is_made (Err (stops.Rule rule)) = true
is_made (Err stops.KeeperFault) = false
is_made (Err stops.OutOfMemory) = false

-- an answer to what was read of bytes deals so in every exchange that read them whole and was sent
-- the text
abbrev pub AnswersEvent : EventDesk → Result Event WebRefusal → List ℕ → Bool → EventDesk → Type 0
AnswersEvent before read text made after =
    (x : Exchange) → ReadsEvent x.read read → WasReadEvent x → Sent x text
    → EventDeals before x made after

-- ---- a door

-- What exchanges in turn came to: these events were made, so many, and the exchanges use them up; so
-- many were answered that the keeper failed, no more than its count rose by; and the desk holds what
-- the events make of it. The keeper was asked to commit once at most in each exchange that asks for a
-- call, and in no other. What each exchange did is said of the very desk before it and after it: so at
-- a want nothing was asked of the keeper, and where it is told to have failed its count rose there.
pub record Delivers (before : EventDesk) (exchanges : List Exchange) (count : ℕ) (after : EventDesk)
    : Type 0 where
  pub events : List Event
  pub faults : ℕ
  pub commits : ℕ
  pub counted : count ≡ length events
  pub run : after.holding ≡ event_run before.holding events
  pub delivered : Delivered (AltersBehind before.holding events)
      (event_turns before.holding events) faults exchanges
  pub rose : RoseBy faults before.keeper.faults after.keeper.faults
  pub asked : MayCommitIn commits exchanges
  pub keeps : KeepsOn commits before after
  pub dealt : InTurn EventDeals before exchanges count after

-- A door was served for so many connections: so many accepts were tried, or the last of fewer found
-- it closed; and this is what its new exchanges came to.
pub record DeliversDoor (connections : ℕ) (before : EventDesk) (door : DoorView) (count : ℕ)
    (after : EventDesk) (door' : DoorView) : Type 0 where
  pub tried : ℕ
  pub exchanges : List Exchange
  pub told : door'.exchanges ≡ option_map (λ old. old ++ exchanges) door.exchanges
  pub accepts : door'.accepts ≡ raised tried door.accepts
  pub returned : Returned connections tried door'
  pub delivers : Delivers before exchanges count after
