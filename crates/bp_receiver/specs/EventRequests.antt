-- What the bytes of a request ask of the desk, or the first refusal in its order.
use Rattle.std.specs.Prelude.{◌≡◌, ◌≢◌, ◌↔◌, ◌≤◌, ◌<◌, ℕ, nat_le, Bool, true, false, List, length, take, codes, Option, Result, Ok, Err, if◌then◌else◌}
use Rattle.std.specs.Option.{ok_or, option_and_then}
use Rattle.httparse.specs.Grammar.{ReadsRequest, RequestHead}
use Rattle.sha2.specs.Sha256.{sha256}
use Rattle.bp_web.specs.Heads.{BeginsWith, BeginsWithNone, Field, after_head, head_fields, start_of, value_of}
use Rattle.bp_web.specs.Requests.{HttpReads, ◌>>=◌, asking_of as call_asking_of, demand, given_length, wanted_by as call_wanted_by}
use Rattle.bp_web.specs.declared.heads.TheConstants.{HEAD_LIMIT, MAX_FIELDS}
use Rattle.bp_web.specs.declared.refusals.WebRefusal.{WebRefusal}
use Rattle.bp_web.specs.declared.refusals.WebRefusal.TheVariants.{BodyRefused, KeyMissing, NoRoute}
use Rattle.bp_web.specs.declared.requests.Asked.{Asked}
use Rattle.bp_web.specs.declared.requests.Asking.{Asking as CallAsking}
use Rattle.bp_web.specs.declared.requests.TheConstants.{MAX_REQUEST}
use Rattle.bp_receiver.specs.DeskRoutes.{desk_route_of, has_body}
use Rattle.bp_receiver.specs.EventBodies.{event_at, said_at}
use Rattle.bp_receiver.specs.declared.events.Event.{Event}
use Rattle.bp_receiver.specs.declared.events.Event.TheVariants as events
use Rattle.bp_receiver.specs.declared.requests.Asking.{Asking}
use Rattle.bp_receiver.specs.declared.routes.DeskRoute.{DeskRoute}

-- ---- a request of the desk's own, by the rules and the order of those of calls

-- how many bytes of body belong to it: none to a GET
abbrev pub event_body_length : DeskRoute → List Field → Result ℕ WebRefusal
event_body_length route fields = if has_body route then given_length fields else Ok 0

-- what a head of this route asks for; the key is the SHA-256 of the value
abbrev pub event_asking_at : Option DeskRoute → List Field → Result Asking WebRefusal
event_asking_at found fields = do
  route ← ok_or found NoRoute
  value ← ok_or (value_of (codes "desk-key") fields) KeyMissing
  count ← event_body_length route fields
  Ok (record { route = route; key = sha256 value; length = count })

-- what a head asks for: its route, its key, and how long its body is
unfoldable pub event_asking_of : RequestHead → Result Asking WebRefusal
event_asking_of head = event_asking_at (desk_route_of head.method head.target) (head_fields head)

-- the event, where the body is whole and has the members; what follows it is unread
unfoldable pub event_asked : Asking → List ℕ → List ℕ → Result Event WebRefusal
event_asked a target after = do
  _ ← demand (nat_le a.length (length after)) BodyRefused
  let said = said_at a.route (take a.length after)
  ok_or (option_and_then (event_at a.route a.key target) said) BodyRefused

-- what a head and what follows it ask of the desk
abbrev pub event_request_of : RequestHead → List ℕ → Result Event WebRefusal
event_request_of head after = do
  a ← event_asking_of head
  event_asked a head.target after

-- ---- any request

-- what a request asks for that is one for a call, or is refused as none
abbrev pub as_review : Result Asked WebRefusal → Result Event WebRefusal
as_review (Ok asked) = Ok (events.Review asked.key asked.call)
as_review (Err refusal) = Err refusal

-- EventReads: the bytes of a request are read as those for a call are, unless there is no route for
-- one; else as a request of the desk's own.
pub data EventReads (bytes : List ℕ) (outcome : Result Event WebRefusal) : Type 0 where
  of_call : (read : Result Asked WebRefusal) → HttpReads bytes read → read ≢ Err NoRoute
      → outcome ≡ as_review read
      → EventReads bytes outcome
  of_desk : HttpReads bytes (Err NoRoute) → (head : RequestHead)
      → BeginsWith (start_of bytes) head
      → outcome ≡ event_request_of head (after_head head bytes)
      → EventReads bytes outcome

-- ---- when enough bytes came

-- both are read as the same
abbrev pub EventReadAlike : List ℕ → List ℕ → Type 0
EventReadAlike a b =
    (outcome : Result Event WebRefusal) → EventReads a outcome ↔ EventReads b outcome

-- how many bytes of body are to come after a head: none where its request is refused before
abbrev pub event_wanted_by : Result Asking WebRefusal → ℕ
event_wanted_by (Ok a) = a.length
event_wanted_by (Err refusal) = 0

-- of a call's request, or of one of the desk's own
abbrev pub wanted_of : Result CallAsking WebRefusal → Result Asking WebRefusal → ℕ
wanted_of (Err NoRoute) own = event_wanted_by own
wanted_of asking own = call_wanted_by asking

-- the bytes hold a whole request, or as many as a head may have and no head, or a head of more fields
-- than it may have
pub data IsWholeEvent (bytes : List ℕ) : Type 0 where
  whole : (head : RequestHead) → BeginsWith (start_of bytes) head
      → wanted_of (call_asking_of head) (event_asking_of head) ≤ length (after_head head bytes)
      → IsWholeEvent bytes
  headless : BeginsWithNone (start_of bytes) → HEAD_LIMIT ≤ length bytes → IsWholeEvent bytes
  crowded : (head : RequestHead) (rest : List ℕ) → ReadsRequest (start_of bytes) head rest
      → MAX_FIELDS < length head.fields
      → IsWholeEvent bytes

-- ---- for private clauses

-- a head that begins the bytes is read as a request of the desk's own
abbrev pub ReadsOwn : List ℕ → Result Event WebRefusal → Type 0
ReadsOwn bytes outcome =
    (head : RequestHead) → BeginsWith (start_of bytes) head
    → outcome ≡ event_request_of head (after_head head bytes)

-- nothing else is read where there is no route for a call
abbrev pub is_no_route : WebRefusal → Bool
is_no_route NoRoute = true
is_no_route _ = false

-- what is told of the body of a request of the desk's own: that it is whole, or that no head is there
pub record OwnWhole (bytes : List ℕ) (told : Bool) : Type 0 where
  pub of_head : (head : RequestHead) → BeginsWith (start_of bytes) head
      → told ≡ nat_le (event_wanted_by (event_asking_of head)) (length (after_head head bytes))
  pub of_none : BeginsWithNone (start_of bytes) → told ≡ true
  pub of_most : MAX_REQUEST ≤ length bytes → told ≡ true
