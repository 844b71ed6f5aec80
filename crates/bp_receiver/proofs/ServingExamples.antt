-- Worked examples of serving a door, each run by the check: an exchange of each case, and what fits
-- none.
use Rattle.std.proofs.Common.{◌≡◌, ◌∙◌, ℕ, Bool, true, false, List, [], ◌∷◌, refl, ap, subst, inl, inr, arith}
use Rattle.std.specs.Prelude.{Ok, Err}
use Rattle.bp_outside.specs.Input.{WasNeeded}
use Rattle.bp_outside.specs.declared.exchange.Exchange.{Exchange}
use Rattle.bp_rules.specs.declared.refusals.MatterRefusal.TheVariants as stops
use Rattle.bp_web.specs.Replies.{reply_text}
use Rattle.bp_web.specs.declared.refusals.WebRefusal.{WebRefusal}
use Rattle.bp_web.specs.declared.replies.Answer.TheVariants as answers
use Rattle.bp_doors.specs.Exchanges.{memory_text}
use Rattle.bp_doors.specs.Exchanges.Sent.{cut, whole}
use Rattle.bp_receiver.specs.Delivered.{AsksFor, Delivered, EventTurn, TellsEvent, TextOfEvent, TextOfNoEvent, event_turn, event_turns}
use Rattle.bp_receiver.specs.Delivered.Delivered.{made, nobody, unmade}
use Rattle.bp_receiver.specs.Delivered.TextOfEvent.{given, not_given}
use Rattle.bp_receiver.specs.Delivered.TextOfNoEvent.{fault, no_memory, no_read, refusal}
use Rattle.bp_receiver.specs.Delivering.{IsReview}
use Rattle.bp_receiver.specs.EventReplies.{event_text}
use Rattle.bp_receiver.specs.EventRequests.{EventReads}
use Rattle.bp_receiver.specs.EventServing.{EventDesk, EventDeals, MayCommit, commits_at, is_made, text_for}
use Rattle.bp_receiver.specs.EventServing.EventDeals.{made_none, made_one}
use Rattle.bp_receiver.specs.EventServing.MayCommit.{at_call, no_call}
use Rattle.bp_receiver.specs.Events.{AltersDesk, Holding, event_of}
use Rattle.bp_receiver.specs.declared.events.Event.{Event}
use Rattle.bp_receiver.specs.declared.events.Event.TheVariants as events
use Rattle.bp_receiver.specs.declared.events.Given.TheVariants as gives
use Rattle.bp_receiver.specs.declared.events.Wanted.{Wanted}
use Rattle.bp_receiver.proofs.RequestLemmas.{reads-one}

-- these bytes were read to the end of input, and these written
abbrev exchanged : List ℕ → List ℕ → Exchange
exchanged read written =
    record {
      read = read;
      ended = true;
      written = written;
      failed = false;
      lacked = false;
      hung_up = true;
    }

-- what an event gives there
abbrev answered : Holding → Event → List ℕ
answered h event = event_text (event_of h event).given

none_needed : WasNeeded TellsEvent []
none_needed = record { front = []; last = []; all = refl; few = omega arith; needed = inl refl }

-- An event and its answer; bytes that are no request; a call at which the keeper failed; want of
-- memory, with an event and with none; a peer that was silent; and an event whose answer was cut off.
each_case : (h : Holding) (event call : Event) (why : WebRefusal) (a b c : List ℕ)
    → EventReads a (Ok event)
    → IsReview call
    → EventReads b (Ok call)
    → EventReads c (Err why)
    → WasNeeded TellsEvent a
    → WasNeeded TellsEvent b
    → WasNeeded TellsEvent c
    → TellsEvent [] false
    → AltersDesk h call
    → Delivered (AltersDesk h) (event_turns h (event ∷ event ∷ event ∷ [])) 1
    (exchanged a (answered h event)
    ∷ exchanged c (reply_text (answers.Web why))
    ∷ exchanged b (reply_text answers.KeeperFault)
    ∷ exchanged [] memory_text
    ∷ record (exchanged [] []) { failed = true }
    ∷ exchanged a memory_text
    ∷ record (exchanged a []) { failed = true }
    ∷ [])
each_case h event call why a b c asks review calls refused needs_a needs_b needs_c nothing_yet alters =
    let then : Holding = (event_of h event).after in
    let last : Holding = (event_of then event).after in
    made (event_turn h event) _ 1 _ _ _ refl (given asks (record { stopped = inr refl; needed = needs_a }) refl) (whole refl)
    (unmade _ 0 1 _ _ _ refl (refusal why refused (record { stopped = inr refl; needed = needs_c }) refl) (whole refl)
    (unmade _ 1 0 _ _ _ refl (fault call review calls (record { stopped = inr refl; needed = needs_b }) alters refl) (whole refl)
    (unmade _ 0 0 _ _ memory_text refl (no_memory none_needed refl) (whole refl)
    (unmade _ 0 0 _ _ [] refl (no_read nothing_yet (inl refl) refl) (whole refl)
    (made (event_turn then event) _ 0 _ _ memory_text refl
    (not_given asks (record { stopped = inr refl; needed = needs_a }) refl) (whole refl)
    (made (event_turn last event) [] 0 _ [] (answered last event) refl
    (given asks (record { stopped = inr refl; needed = needs_a }) refl) (cut (inl refl) (answered last event) refl) nobody))))))

-- no event is left over
none_left : (A : Event → Type 0) (turns : List EventTurn) (count : ℕ) (xs : List Exchange)
    (turn : EventTurn)
    → Delivered A turns count xs
    → xs ≡ []
    → turns ≡ turn ∷ []
    → ⊥
none_left A turns count xs turn nobody none is = absurd cc
none_left A turns count xs turn (made first left faults x others text h t s rest) none is = absurd cc
none_left A turns count xs turn (unmade left here faults x others text h t s rest) none is = absurd cc

-- no want is answered that the keeper failed
no_fault_at_a_want : (A : Event → Type 0) (x : Exchange) (key : List ℕ) (wanted : Wanted)
    (text : List ℕ)
    → AsksFor x (events.Want key wanted)
    → TextOfNoEvent A x text 1
    → ⊥
no_fault_at_a_want A x key wanted text asks (fault event review asked read alters t) =
    let same : Ok event ≡ Ok (events.Want key wanted) =
    reads-one x.read (Ok event) (Ok (events.Want key wanted)) asked asks in
    let is : event ≡ events.Want key wanted = cc in
    subst (λ (e : Event). IsReview e) is review

-- at a want the keeper is asked to commit nothing, whatever is answered
no_commit_at_a_want : (x : Exchange) (key : List ℕ) (wanted : Wanted) (most : ℕ)
    → AsksFor x (events.Want key wanted)
    → MayCommit x most
    → most ≡ 0
no_commit_at_a_want x key wanted most asks no_call = refl
no_commit_at_a_want x key wanted most asks (at_call call) =
    let same : Ok call.event ≡ Ok (events.Want key wanted) =
    reads-one x.read (Ok call.event) (Ok (events.Want key wanted)) call.asks asks in
    let is : call.event ≡ events.Want key wanted = cc in
    absurd (subst (λ (e : Event). IsReview e) is call.review)

-- an exchange that made an event asked for it
asks_so : (turn : EventTurn) (x : Exchange) (text : List ℕ)
    → TextOfEvent turn x text
    → AsksFor x turn.asked
asks_so turn x text (given asks read t) = asks
asks_so turn x text (not_given asks read t) = asks

-- whatever is answered to a want, the keeper is as it was: its rows, its commits and its faults
keeper_at_a_want : (before after : EventDesk) (x : Exchange) (key : List ℕ) (wanted : Wanted)
    (told : Bool)
    → AsksFor x (events.Want key wanted)
    → EventDeals before x told after
    → after.keeper ≡ before.keeper
keeper_at_a_want before after x key wanted told asks (made_one event text left run t s keeps) =
    let asked : AsksFor x event = asks_so (event_turn before.holding event) x text t in
    let same : Ok event ≡ Ok (events.Want key wanted) =
    reads-one x.read (Ok event) (Ok (events.Want key wanted)) asked asks in
    let is : event ≡ events.Want key wanted = cc in
    keeps.quiet (ap commits_at is)
keeper_at_a_want before after x key wanted told asks (made_none faults most text left run t s rose may keeps) =
    keeps.quiet (no_commit_at_a_want x key wanted most asks may)

-- nor is a fault told of a call that alters nothing
no_fault_without_change : (h : Holding) (x : Exchange) (event : Event) (text : List ℕ)
    → AsksFor x event
    → (event_of h event).after ≡ h
    → TextOfNoEvent (AltersDesk h) x text 1
    → ⊥
no_fault_without_change h x event text asks stays (fault other review asked read alters t) =
    let same : Ok other ≡ Ok event = reads-one x.read (Ok other) (Ok event) asked asks in
    let is : other ≡ event = cc in
    alters (ap (λ (e : Event). (event_of h e).after) is ∙ stays)

-- what was given was made, and a fault was not
given_is_made : is_made (Ok gives.Granted) ≡ true
given_is_made = refl

fault_is_not : is_made (Err stops.KeeperFault) ≡ false
fault_is_not = refl

lacking_says_so : text_for (Err stops.OutOfMemory) ≡ memory_text
lacking_says_so = refl
