-- What the desk's calls give, and what they leave of the desk and of its keeper.
use Rattle.std.specs.Prelude.{◌≡◌, ◌≢◌, ℕ, List, Result, Ok, Err, IfSome, IsTrue, is_some, ⊤}
use Rattle.bp_core.specs.Counts.{risen}
use Rattle.bp_core.specs.declared.refusals.Refusal.{Refusal}
use Rattle.bp_core.specs.declared.refusals.Refusal.TheVariants as refusals
use Rattle.bp_core.specs.declared.rules.Rule.{Rule}
use Rattle.bp_keep.specs.Keeper.{KeeperView}
use Rattle.bp_matter.specs.declared.calls.Call.{Call}
use Rattle.bp_matter.specs.declared.calls.Reply.{Reply}
use Rattle.bp_rules.specs.Steps.{AtMostOnce, KeepsRows, Stays}
use Rattle.bp_rules.specs.declared.refusals.MatterRefusal.{MatterRefusal}
use Rattle.bp_rules.specs.declared.refusals.MatterRefusal.TheVariants as stops
use Rattle.bp_receiver.specs.Events.{Holding, event_of}
use Rattle.bp_receiver.specs.declared.events.Event.{Event}
use Rattle.bp_receiver.specs.declared.events.Event.TheVariants as events
use Rattle.bp_receiver.specs.declared.events.Given.{Given}
use Rattle.bp_receiver.specs.declared.events.Given.TheVariants as gives
use Rattle.bp_receiver.specs.declared.events.Wanted.{Wanted}
use Rattle.bp_receiver.specs.declared.grants.Grant.{Grant}

-- ---- a grant

-- a grant whose answer is this was made
pub record GrantMade (h : Holding) (answer : Result (List Grant) Rule) (k : Holding) : Type 0 where
  pub grants : answer ≡ Ok k.grants
  pub matter : k.matter ≡ h.matter

-- a grant whose answer is this broke its rule, and the desk is as it was
pub record GrantRefused (h : Holding) (answer : Result (List Grant) Rule) (rule : Rule)
    (k : Holding) : Type 0 where
  pub broken : answer ≡ Err rule
  pub desk : k ≡ h

-- a grant whose answer is this was made, or broke its rule, or lacked memory
abbrev pub GrantGives : Holding → Result (List Grant) Rule → Result (Unit {0}) Refusal → Holding
    → Type 0
GrantGives h answer (Ok _) k = GrantMade h answer k
GrantGives h answer (Err (refusals.Rule rule)) k = GrantRefused h answer rule k
GrantGives h answer (Err refusals.OutOfMemory) k = k ≡ h

-- ---- an event

-- a review call; nothing else asks anything of the keeper
abbrev pub IsReview : Event → Type 0
IsReview (events.Review key call) = ⊤
IsReview _ = ⊥

-- An event was made, and this given. A keeper that kept the matter keeps the matter after it, tells
-- rows only where it told them before, and is asked for nothing where the matter stays.
pub record EventMade (h : Holding) (event : Event) (keeper : KeeperView) (given : Given)
    (k : Holding) (keeper' : KeeperView) : Type 0 where
  pub answer : event_of h event ≡ record { given = Ok given; after = k }
  pub kept : KeepsRows keeper h.matter → KeepsRows keeper' k.matter
  pub told : IfSome keeper'.rows (λ _. IsTrue (is_some keeper.rows))
  pub faults : keeper'.faults ≡ keeper.faults
  pub loads : keeper'.loads ≡ keeper.loads
  pub commits : AtMostOnce keeper.commits keeper'.commits
  pub sure : keeper'.sure ≡ keeper.sure
  pub quiet : k.matter ≡ h.matter → keeper' ≡ keeper

-- an event broke this rule, and desk and keeper are as they were
pub record EventRefused (h : Holding) (event : Event) (keeper : KeeperView) (rule : Rule)
    (k : Holding) (keeper' : KeeperView) : Type 0 where
  pub answer : event_of h event ≡ record { given = Err rule; after = h }
  pub desk : k ≡ h
  pub quiet : keeper' ≡ keeper

-- the keeper failed, at a review call that would have changed the matter; the desk is as it was
pub record KeeperFailed (h : Holding) (event : Event) (keeper : KeeperView) (k : Holding)
    (keeper' : KeeperView) : Type 0 where
  pub review : IsReview event
  pub changes : (event_of h event).after ≢ h
  pub desk : k ≡ h
  pub stays : Stays h.matter keeper (risen keeper.faults) k.matter keeper'

-- memory ran out, and the desk is as it was; the keeper was asked for nothing but at a call
pub record EventLacked (h : Holding) (event : Event) (keeper : KeeperView) (k : Holding)
    (keeper' : KeeperView) : Type 0 where
  pub desk : k ≡ h
  pub stays : Stays h.matter keeper keeper.faults k.matter keeper'
  pub quiet : ¬ (IsReview event) → keeper' ≡ keeper

-- what an event gives
abbrev pub EventGives : Holding → Event → KeeperView → Result Given MatterRefusal → Holding
    → KeeperView → Type 0
EventGives h event keeper (Ok given) k keeper' = EventMade h event keeper given k keeper'
EventGives h event keeper (Err (stops.Rule rule)) k keeper' =
    EventRefused h event keeper rule k keeper'
EventGives h event keeper (Err stops.KeeperFault) k keeper' =
    KeeperFailed h event keeper k keeper'
EventGives h event keeper (Err stops.OutOfMemory) k keeper' =
    EventLacked h event keeper k keeper'

-- ---- each kind of event

-- what a call gives
abbrev pub ReviewGives : Holding → List ℕ → Call → KeeperView → Result Given MatterRefusal
    → Holding → KeeperView → Type 0
ReviewGives h key call keeper result k keeper' =
    EventGives h (events.Review key call) keeper result k keeper'

-- what a grant by who has the key gives; whatever the keeper is, nothing is asked of it
abbrev pub KeyGrants : Holding → List ℕ → Grant → Result Given MatterRefusal → Holding → Type 0
KeyGrants h key new result k =
    (keeper : KeeperView)
    → EventGives h (events.Grant key new.staff new.id) keeper result k keeper

-- what a want gives; nothing is asked of the keeper
abbrev pub KeyWants : Holding → List ℕ → Wanted → Result Given MatterRefusal → Holding → Type 0
KeyWants h key wanted result k =
    (keeper : KeeperView) → EventGives h (events.Want key wanted) keeper result k keeper

-- ---- what was made, as what is given

-- the reply to a call
abbrev pub from_reply : Result Reply MatterRefusal → Result Given MatterRefusal
from_reply (Ok reply) = Ok (gives.Review reply)
from_reply (Err refusal) = Err refusal

-- why a grant or a want gave nothing
abbrev pub stopped_by : Refusal → MatterRefusal
stopped_by (refusals.Rule rule) = stops.Rule rule
stopped_by refusals.OutOfMemory = stops.OutOfMemory

-- a grant
abbrev pub from_grant : Result (Unit {0}) Refusal → Result Given MatterRefusal
from_grant (Ok _) = Ok gives.Granted
from_grant (Err refusal) = Err (stopped_by refusal)

-- what a receiver is given
abbrev pub from_want : Result Given Refusal → Result Given MatterRefusal
from_want (Ok given) = Ok given
from_want (Err refusal) = Err (stopped_by refusal)
