-- That the desk's own requests with a body are those of no call.
use Rattle.std.proofs.Common.{◌≡◌, ◌≤◌, ◌&&◌, ◌⊎◌, ℕ, Bool, true, false, List, codes, Option, Some, None, Result, Ok, Err, refl, sym, ap, subst, ◌∙◌, inl, inr, arith, if◌then◌else◌}
use Rattle.std.specs.Option.{ok_or}
use Rattle.std.specs.Str.{bytes_eq}
use Rattle.std.proofs.lemmas.Bool.{cases_Bool}
use Rattle.std.proofs.lemmas.Slice.Eq.{bytes_eq-Decides}
use Rattle.httparse.specs.Grammar.{RequestHead}
use Rattle.sha2.specs.Sha256.{sha256}
use Rattle.bp_web.specs.Heads.{Field, head_fields, value_of}
use Rattle.bp_web.specs.Requests.{◌>>=◌, asking_at as call_asking_at, asking_of as call_asking_of, wanted_by as call_wanted_by}
use Rattle.bp_web.specs.Routes.{fits, get, next_of, post, route_of}
use Rattle.bp_web.specs.declared.refusals.WebRefusal.{WebRefusal}
use Rattle.bp_web.specs.declared.refusals.WebRefusal.TheVariants as refusals
use Rattle.bp_web.specs.declared.requests.Asking.{Asking as CallAsking}
use Rattle.bp_receiver.specs.DeskRoutes.{desk_route_of, has_body, is_file_target}
use Rattle.bp_receiver.specs.EventRequests.{event_asking_at, event_asking_of, event_body_length, event_wanted_by, wanted_of}
use Rattle.bp_receiver.specs.declared.requests.Asking.{Asking}
use Rattle.bp_receiver.specs.declared.routes.DeskRoute.{DeskRoute}
use Rattle.bp_receiver.specs.declared.routes.DeskRoute.TheVariants as routes

-- ---- a request with a body

-- a route without one wants none
none-wanted : (route : DeskRoute) (fields : List Field) (found : Option (List ℕ))
    → has_body route ≡ false
    → event_wanted_by (ok_or found refusals.KeyMissing >>= (λ value. event_body_length route fields
    >>= (λ count. Ok (record { route = route; key = sha256 value; length = count })))) ≡ 0
none-wanted route fields None none = refl
none-wanted route fields (Some value) none = simp none refl

-- and so do those whose methods are GET
get-wanted : (a b : Bool) (fields : List Field)
    → event_wanted_by (event_asking_at
    (if a then Some routes.List else (if b then Some routes.File else None)) fields) ≡ 0
get-wanted true b fields = none-wanted routes.List fields (value_of (codes "desk-key") fields) refl
get-wanted false true fields =
    none-wanted routes.File fields (value_of (codes "desk-key") fields) refl
get-wanted false false fields = refl

and-left : (a b : Bool) → (a && b) ≡ true → a ≡ true
and-left true b h = refl
and-left false b h = absurd cc

and-right : (a b : Bool) → (a && b) ≡ true → b ≡ true
and-right true b h = h
and-right false b h = absurd cc

-- there is no call of the route with a body
no-call : route_of post (codes "/grants") ≡ None
unfolding route_of fits next_of
no-call = refl

no-call-there : (method target : List ℕ)
    → (bytes_eq method post && bytes_eq target (codes "/grants")) ≡ true
    → route_of method target ≡ None
no-call-there method target both =
    let first = and-left (bytes_eq method post) (bytes_eq target (codes "/grants")) both in
    let second = and-right (bytes_eq method post) (bytes_eq target (codes "/grants")) both in
    ap (λ m. route_of m target) ((bytes_eq-Decides method post).0 first)
    ∙ ap (route_of post) ((bytes_eq-Decides target (codes "/grants")).0 second)
    ∙ no-call

-- a request that wants a body is one of the desk's own
apart : (method target : List ℕ) (fields : List Field)
    → (event_wanted_by (event_asking_at (desk_route_of method target) fields) ≡ 0)
    ⊎ (route_of method target ≡ None)
apart method target fields =
    let is_list = bytes_eq method get && bytes_eq target (codes "/granted") in
    let is_file = bytes_eq method get && is_file_target target in
    elim (cases_Bool (bytes_eq method post && bytes_eq target (codes "/grants"))) [
      | inl both ↦ inr (no-call-there method target both)
      | inr other ↦ inl (
          ap (λ (b : Bool). event_wanted_by (event_asking_at (if b then Some routes.Grant
          else (if is_list then Some routes.List else (if is_file then Some routes.File else None)))
          fields)) other
          ∙ get-wanted is_list is_file fields)
    ]

-- so it wants no more than the two together
pub own-wanted : (head : RequestHead)
    → event_wanted_by (event_asking_of head) ≤ wanted_of (call_asking_of head) (event_asking_of head)
unfolding event_asking_of call_asking_of
own-wanted head =
    elim (apart head.method head.target (head_fields head)) [
      | inl zero ↦ omega (arith, zero)
      | inr none ↦
          let no : call_asking_of head ≡ Err refusals.NoRoute =
          ap (λ r. call_asking_at r (head_fields head)) none in
          subst (λ (x : Result CallAsking WebRefusal).
          event_wanted_by (event_asking_of head) ≤ wanted_of x (event_asking_of head)) (sym no) (omega arith)
    ]

-- nor does a request for a call
pub call-wanted : (call : Result CallAsking WebRefusal) (own : Result Asking WebRefusal)
    → call_wanted_by call ≤ wanted_of call own
call-wanted (Ok a) own = omega arith
call-wanted (Err refusals.NoRoute) own = omega arith
call-wanted (Err refusals.HeadRefused) own = omega arith
call-wanted (Err refusals.KeyMissing) own = omega arith
call-wanted (Err refusals.BodyLimit) own = omega arith
call-wanted (Err refusals.BodyRefused) own = omega arith
call-wanted (Err refusals.OutOfMemory) own = omega arith
