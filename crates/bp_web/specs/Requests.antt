-- What the bytes of a request ask for, or the first refusal in its order.
use Rattle.std.specs.Prelude.{ℕ, ◌≡◌, ◌≤◌, ◌<◌, ◌↔◌, ◌++◌, nat_le, not, Bool, List, take, length, codes, Option, Some, Result, Ok, Err, if◌then◌else◌}
use Rattle.std.specs.Option.{ok_or, option_and_then}
use Rattle.httparse.specs.Grammar.{HasNoRequest, MayBecomeRequest, ReadsRequest, RequestHead}
use Rattle.serde_json.specs.Data.{Data, null}
use Rattle.sha2.specs.Sha256.{sha256}
use Rattle.bp_web.specs.Calls.{call_of}
use Rattle.bp_web.specs.Heads.{BeginsWith, BeginsWithNone, Field, NeverBegins, after_head, head_fields, has_head_field, start_of, value_of}
use Rattle.bp_web.specs.Members.{object_of}
use Rattle.bp_web.specs.Numbers.{number_of}
use Rattle.bp_web.specs.Routes.{is_get, route_of}
use Rattle.bp_web.specs.declared.heads.TheConstants.{HEAD_LIMIT, MAX_FIELDS}
use Rattle.bp_web.specs.declared.requests.Asked.{Asked}
use Rattle.bp_web.specs.declared.requests.Asking.{Asking}
use Rattle.bp_web.specs.declared.requests.TheConstants.{MAX_BODY}
use Rattle.bp_web.specs.declared.refusals.WebRefusal.{WebRefusal}
use Rattle.bp_web.specs.declared.refusals.WebRefusal.TheVariants.{HeadRefused, NoRoute, KeyMissing, BodyLimit, BodyRefused}
use Rattle.bp_web.specs.declared.routes.Route.{Route}

-- ---- steps of which the first that refuses is the answer

infixl 10 ◌>>=◌
-- what is well goes on, and a refusal is the answer
abbrev pub ◌>>=◌ : {A B : Type 0} → Result A WebRefusal → (A → Result B WebRefusal)
    → Result B WebRefusal
Ok value >>= next = next value
Err refusal >>= next = Err refusal

-- a test passes, or the request is refused
abbrev pub demand : Bool → WebRefusal → Result (Unit {0}) WebRefusal
demand passes refusal = if passes then Ok tt else Err refusal

-- ---- the order of the refusals

-- how many bytes of body a request says that it has (RFC 9112, section 6.2)
abbrev pub given_length : List Field → Result ℕ WebRefusal
given_length fields = do
  _ ← demand (not (has_head_field (codes "transfer-encoding") fields)) BodyRefused
  count ← ok_or (option_and_then number_of (value_of (codes "content-length") fields)) BodyRefused
  _ ← demand (nat_le count MAX_BODY) BodyLimit
  Ok count

-- how many bytes of body belong to it: none to a GET
abbrev pub body_length : Route → List Field → Result ℕ WebRefusal
body_length route fields = if is_get route then Ok 0 else given_length fields

-- what a head of this route asks for; the key is the SHA-256 of the value
abbrev pub asking_at : Option Route → List Field → Result Asking WebRefusal
asking_at found fields = do
  route ← ok_or found NoRoute
  value ← ok_or (value_of (codes "desk-key") fields) KeyMissing
  count ← body_length route fields
  Ok (record { route = route; key = sha256 value; length = count })

-- what a head asks for: its route, its key, and how long its body is
unfoldable pub asking_of : RequestHead → Result Asking WebRefusal
asking_of head = asking_at (route_of head.method head.target) (head_fields head)

-- what a body says: nothing to a GET
abbrev pub data_of : Route → List ℕ → Option Data
data_of route body = if is_get route then Some null else object_of body

-- the call with its key, where the body is whole and has the members; what follows it is unread
unfoldable pub asked_of : Asking → List ℕ → List ℕ → Result Asked WebRefusal
asked_of a target after = do
  _ ← demand (nat_le a.length (length after)) BodyRefused
  let said = data_of a.route (take a.length after)
  call ← ok_or (option_and_then (call_of a.route target) said) BodyRefused
  Ok (record { key = a.key; call = call })

-- what a head and what follows it ask for
abbrev pub whole_request : RequestHead → List ℕ → Result Asked WebRefusal
whole_request head after = do
  a ← asking_of head
  asked_of a head.target after

-- The bytes of a request are read so: a head is at their front, and it and what follows it give the
-- outcome; or no head is there.
pub data HttpReads (bytes : List ℕ) (outcome : Result Asked WebRefusal) : Type 0 where
  of_head : (head : RequestHead) → BeginsWith (start_of bytes) head
      → outcome ≡ whole_request head (after_head head bytes)
      → HttpReads bytes outcome
  of_none : BeginsWithNone (start_of bytes)
      → outcome ≡ Err HeadRefused
      → HttpReads bytes outcome

-- ---- when enough bytes came

-- both are read as the same
abbrev pub ReadAlike : List ℕ → List ℕ → Type 0
ReadAlike a b = (outcome : Result Asked WebRefusal) → HttpReads a outcome ↔ HttpReads b outcome

-- how many bytes of body are to come after a head: none where its request is refused before
abbrev pub wanted_by : Result Asking WebRefusal → ℕ
wanted_by (Ok a) = a.length
wanted_by (Err refusal) = 0

-- the bytes hold a whole request, or as many as a head may have and no head. A head that is there
-- with more fields than it may have is whole, since it is refused whatever follows
pub data IsWhole (bytes : List ℕ) : Type 0 where
  whole : (head : RequestHead) → BeginsWith (start_of bytes) head
      → wanted_by (asking_of head) ≤ length (after_head head bytes)
      → IsWhole bytes
  headless : BeginsWithNone (start_of bytes) → HEAD_LIMIT ≤ length bytes → IsWhole bytes
  crowded : (head : RequestHead) (rest : List ℕ) → ReadsRequest (start_of bytes) head rest
      → MAX_FIELDS < length head.fields
      → IsWhole bytes

-- However the bytes go on: from n bytes on, more are read as these are; and with fewer the request
-- isn't whole. Where no head can come, no more bytes are waited for.
pub record EndsAt (bytes : List ℕ) (n : ℕ) : Type 0 where
  pub alike : (more rest : List ℕ) → n ≤ length (bytes ++ more)
      → ReadAlike (bytes ++ more ++ rest) (bytes ++ more)
  pub first : (more : List ℕ) → IsWhole (bytes ++ more) → n ≤ length (bytes ++ more)
  pub never : NeverBegins (start_of bytes) → n ≤ length bytes

-- no head is there, whatever its number of fields, fewer bytes than one may have came, and more may
-- make one
pub record IsOpen (bytes : List ℕ) : Type 0 where
  pub none : HasNoRequest (start_of bytes)
  pub short : length bytes < HEAD_LIMIT
  pub may : MayBecomeRequest (start_of bytes)
