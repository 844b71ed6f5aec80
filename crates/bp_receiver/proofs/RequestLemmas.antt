-- What a request is read as: once, and alike however it goes on.
use Rattle.std.proofs.Common.{◌≡◌, ◌≢◌, ◌≤◌, ◌<◌, ℕ, Bool, true, false, List, [], ◌++◌, length, take, drop, map, Option, Some, None, Result, Ok, Err, refl, sym, ap, ◌∙◌, subst, arith, codes, inl, inr}
use Rattle.std.specs.Prelude.{nat_le}
use Rattle.std.specs.Option.{ok_or, option_and_then}
use Rattle.std.proofs.lemmas.Bool.{cases_Bool, le-leb, leb-true, lt-leb}
use Rattle.std.proofs.lemmas.List.{append-nil, length-append, length-drop, length-take, take-append-le, drop-append-le}
use Rattle.httparse.specs.declared.spans.HeaderSpan.{HeaderSpan}
use Rattle.httparse.specs.declared.spans.RequestSpans.{RequestSpans}
use Rattle.httparse.specs.Grammar.{ReadsRequest, RequestHead, print_request}
use Rattle.httparse.specs.Spans.{IsRequestWithin, header_bytes, span_bytes}
use Rattle.sha2.specs.Sha256.{sha256}
use Rattle.bp_web.specs.Heads.{BeginsWith, BeginsWithNone, Field, NeverBegins, after_head, head_fields, start_of, value_of}
use Rattle.bp_web.specs.Requests.{HttpReads, IsWhole, ReadAlike, asking_of as call_asking_of, crowded, headless, of_head, of_none, whole, ◌>>=◌}
use Rattle.bp_web.specs.declared.heads.TheConstants.{HEAD_LIMIT}
use Rattle.bp_web.specs.declared.refusals.WebRefusal.{WebRefusal}
use Rattle.bp_web.specs.declared.refusals.WebRefusal.TheVariants as refusals
use Rattle.bp_web.specs.declared.requests.Asked.{Asked}
use Rattle.bp_web.specs.declared.requests.TheConstants.{MAX_BODY, MAX_REQUEST}
use Rattle.bp_web.proofs.RequestLemmas.{Found, after_same, begins_more, begins_there, crowded_none, head_fits, one_head, reads_once, small_given}
use Rattle.bp_receiver.specs.DeskRoutes.{desk_route_of, has_body}
use Rattle.bp_receiver.specs.EventBodies.{event_at, said_at}
use Rattle.bp_receiver.specs.EventRequests.{EventReadAlike, EventReads, IsWholeEvent, OwnWhole, ReadsOwn, as_review, event_asked, event_asking_at, event_asking_of, event_body_length, crowded as crowded_event, event_request_of, headless as headless_event, is_no_route, of_call, of_desk, event_wanted_by, whole as whole_event}
use Rattle.bp_receiver.specs.declared.events.Event.{Event}
use Rattle.bp_receiver.specs.declared.events.Event.TheVariants as events
use Rattle.bp_receiver.specs.declared.requests.Asking.{Asking}
use Rattle.bp_receiver.specs.declared.routes.DeskRoute.{DeskRoute}
use Rattle.bp_receiver.proofs.RouteLemmas.{call-wanted, own-wanted}

-- ---- one outcome

pub reads-one : (bytes : List ℕ) (a b : Result Event WebRefusal)
    → EventReads bytes a
    → EventReads bytes b
    → a ≡ b
reads-one bytes a b (of_call r http other is) (of_call q http' other' is') =
    is ∙ ap as_review (reads_once bytes r q http http') ∙ sym is'
reads-one bytes a b (of_call r http other is) (of_desk http' head begins is') =
    absurd (other (reads_once bytes r (Err refusals.NoRoute) http http'))
reads-one bytes a b (of_desk http head begins is) (of_call r http' other is') =
    absurd (other (reads_once bytes r (Err refusals.NoRoute) http' http))
reads-one bytes a b (of_desk http h begins is) (of_desk http' k begins' is') =
    is ∙ ap (λ head. event_request_of head (after_head head bytes))
    (one_head (start_of bytes) h k begins begins') ∙ sym is'

-- ---- what the code finds

asking-same : (bytes start : List ℕ) (room : List HeaderSpan) (spans : RequestSpans)
    (f : Found bytes start room spans)
    → event_asking_at
    (desk_route_of (span_bytes start spans.method) (span_bytes start spans.path))
    (map (header_bytes start) (take spans.headers room))
    ≡ event_asking_of f.has.head
unfolding event_asking_of
asking-same bytes start room spans f =
    let at = f.has.at in
    rw (at.method, at.path, at.fields) refl

pub asking-found : (bytes start : List ℕ) (room : List HeaderSpan) (spans : RequestSpans)
    (f : Found bytes start room spans) (method target : List ℕ) (route : Option DeskRoute)
    → method ≡ span_bytes start spans.method
    → target ≡ span_bytes start spans.path
    → route ≡ desk_route_of method target
    → event_asking_at route (map (header_bytes start) (take spans.headers room)) ≡ event_asking_of f.has.head
asking-found bytes start room spans f method target route m t is =
    let at : route ≡ desk_route_of (span_bytes start spans.method) (span_bytes start spans.path) =
    is ∙ ap (λ x. desk_route_of x target) m
    ∙ ap (desk_route_of (span_bytes start spans.method)) t in
    ap (λ x. event_asking_at x (map (header_bytes start) (take spans.headers room))) at
    ∙ asking-same bytes start room spans f

-- what is read of the head that was found is read of each head that begins the bytes
of-any : (bytes start : List ℕ) (room : List HeaderSpan) (spans : RequestSpans)
    (f : Found bytes start room spans) (r : Result Event WebRefusal)
    → r ≡ event_request_of f.has.head (after_head f.has.head bytes)
    → ReadsOwn bytes r
of-any bytes start room spans f r is head begins =
    is ∙ ap (λ h. event_request_of h (after_head h bytes))
    (one_head (start_of bytes) f.has.head head (begins_there bytes start room spans f) begins)

pub own-refused : (bytes start : List ℕ) (room : List HeaderSpan) (spans : RequestSpans)
    (f : Found bytes start room spans) (e : WebRefusal)
    → event_asking_of f.has.head ≡ Err e
    → ReadsOwn bytes (Err e)
own-refused bytes start room spans f e is =
    let head = f.has.head in
    let asks : Err e ≡ event_request_of head (after_head head bytes) =
    sym (ap (λ r. r >>= (λ a. event_asked a head.target (after_head head bytes))) is) in
    of-any bytes start room spans f (Err e) asks

pub own-asked : (bytes start : List ℕ) (room : List HeaderSpan) (spans : RequestSpans)
    (f : Found bytes start room spans) (a : Asking) (r : Result Event WebRefusal)
    → event_asking_of f.has.head ≡ Ok a
    → r ≡ event_asked a (span_bytes start spans.path) (drop spans.len bytes)
    → ReadsOwn bytes r
own-asked bytes start room spans f a r is same =
    let head = f.has.head in
    let asks : r ≡ event_request_of head (after_head head bytes) =
    same ∙ ap (λ t. event_asked a t (drop spans.len bytes)) f.has.at.path
    ∙ ap (event_asked a head.target) (after_same bytes start room spans f)
    ∙ sym (ap (λ r. r >>= (λ a. event_asked a head.target (after_head head bytes))) is) in
    of-any bytes start room spans f r asks

-- no head is there
none-there : (bytes start : List ℕ)
    → start ≡ start_of bytes
    → BeginsWithNone start
    → BeginsWithNone (start_of bytes)
none-there bytes start same none = subst BeginsWithNone same none

pub own-none : (bytes start : List ℕ) (r : Result Event WebRefusal)
    → start ≡ start_of bytes
    → BeginsWithNone start
    → ReadsOwn bytes r
own-none bytes start r same none head begins =
    absurd (none-there bytes start same none head begins)

-- ---- a request for a call, and one that isn't

abbrev as_call : WebRefusal → Result Asked WebRefusal
as_call e = Err e

abbrev as_event : WebRefusal → Result Event WebRefusal
as_event e = Err e

abbrev as_asked : Event → Result Event WebRefusal
as_asked event = Ok event

pub reads-review : (bytes : List ℕ) (read : Result Asked WebRefusal) (asked : Asked) (event : Event)
    → read ≡ Ok asked
    → (read ≢ as_call refusals.OutOfMemory → HttpReads bytes read)
    → event ≡ events.Review asked.key asked.call
    → EventReads bytes (as_asked event)
reads-review bytes read asked event is http same =
    of_call read (http (λ e. let x = is in cc)) (λ e. let x = is in cc)
    (ap as_asked same ∙ ap as_review (sym is))

other-refusal : (e : WebRefusal) → is_no_route e ≡ false → e ≢ refusals.NoRoute
other-refusal e other is = let x = ap is_no_route is in cc

pub reads-refused : (bytes : List ℕ) (read : Result Asked WebRefusal) (e : WebRefusal) (told : Bool)
    → read ≡ as_call e
    → (read ≢ as_call refusals.OutOfMemory → HttpReads bytes read)
    → told ≡ is_no_route e
    → told ≡ false
    → as_event e ≢ as_event refusals.OutOfMemory
    → EventReads bytes (as_event e)
reads-refused bytes read e told is http tells other not_memory =
    let memory : read ≢ as_call refusals.OutOfMemory =
    λ m. not_memory (ap as_event (let x = is in cc)) in
    let own : read ≢ as_call refusals.NoRoute =
    λ n. other-refusal e (sym tells ∙ other) (let x = is in cc) in
    of_call read (http memory) own (ap as_review (sym is))

is-no-route : (e : WebRefusal) → is_no_route e ≡ true → e ≡ refusals.NoRoute
is-no-route refusals.NoRoute is = refl
is-no-route refusals.HeadRefused is = absurd cc
is-no-route refusals.KeyMissing is = absurd cc
is-no-route refusals.BodyLimit is = absurd cc
is-no-route refusals.BodyRefused is = absurd cc
is-no-route refusals.OutOfMemory is = absurd cc

no-route-reads : (bytes : List ℕ) (r : Result Event WebRefusal)
    → HttpReads bytes (Err refusals.NoRoute)
    → ReadsOwn bytes r
    → EventReads bytes r
no-route-reads bytes r (of_head head begins is) own =
    of_desk (of_head head begins is) head begins (own head begins)
no-route-reads bytes r (of_none none is) own = absurd (let x = is in cc)

pub reads-desk : (bytes : List ℕ) (read : Result Asked WebRefusal) (e : WebRefusal) (told : Bool)
    (r : Result Event WebRefusal)
    → read ≡ as_call e
    → (read ≢ as_call refusals.OutOfMemory → HttpReads bytes read)
    → told ≡ is_no_route e
    → told ≡ true
    → ReadsOwn bytes r
    → EventReads bytes r
reads-desk bytes read e told r is http tells own reads =
    let kind : e ≡ refusals.NoRoute = is-no-route e (sym tells ∙ own) in
    let refused : read ≡ as_call refusals.NoRoute = is ∙ ap as_call kind in
    no-route-reads bytes r
    (subst (HttpReads bytes) refused (http (λ m. let x = refused in cc))) reads

-- ---- the body

pub asked-short : (a : Asking) (target after : List ℕ)
    → length after < a.length
    → Err refusals.BodyRefused ≡ event_asked a target after
unfolding event_asked
asked-short a target after short =
    let fails : nat_le a.length (length after) ≡ false = lt-leb _ _ short in
    simp fails refl

pub asked-found : (a : Asking) (target after : List ℕ) (found : Option Event)
    → a.length ≤ length after
    → found ≡ option_and_then (event_at a.route a.key target)
    (said_at a.route (take a.length after))
    → ok_or found refusals.BodyRefused ≡ event_asked a target after
unfolding event_asked
asked-found a target after found long is =
    let fits : nat_le a.length (length after) ≡ true = le-leb _ _ long in
    simp fits (ap (λ (x : Option Event). ok_or x refusals.BodyRefused) is)

-- ---- whether the body is whole

pub own-told : (bytes start : List ℕ) (room : List HeaderSpan) (spans : RequestSpans)
    (f : Found bytes start room spans) (wanted : ℕ) (after : List ℕ) (told : Bool)
    → wanted ≡ event_wanted_by (event_asking_of f.has.head)
    → after ≡ drop spans.len bytes
    → told ≡ nat_le wanted (length after)
    → (head : RequestHead)
    → BeginsWith (start_of bytes) head
    → told ≡ nat_le (event_wanted_by (event_asking_of head)) (length (after_head head bytes))
own-told bytes start room spans f wanted after told w a is head begins =
    is ∙ ap (λ n. nat_le n (length after)) w
    ∙ ap (λ (l : List ℕ). nat_le (event_wanted_by (event_asking_of f.has.head)) (length l))
    (a ∙ after_same bytes start room spans f)
    ∙ ap (λ h. nat_le (event_wanted_by (event_asking_of h)) (length (after_head h bytes)))
    (one_head (start_of bytes) f.has.head head (begins_there bytes start room spans f) begins)

pub own-there : (bytes start : List ℕ) (room : List HeaderSpan) (spans : RequestSpans)
    (f : Found bytes start room spans) (told : Bool)
    → BeginsWithNone (start_of bytes)
    → told ≡ true
own-there bytes start room spans f told none =
    absurd (none f.has.head (begins_there bytes start room spans f))

-- what is to come after a head is no longer than a body may be
small-wanted-at : (found : Option DeskRoute) (fields : List Field)
    → event_wanted_by (event_asking_at found fields) ≤ MAX_BODY
small-wanted-at None fields = omega arith
small-wanted-at (Some route) fields = by_value (value_of (codes "desk-key") fields)
  where
    by_length : (value : List ℕ) (n : Result ℕ WebRefusal)
        → ((count : ℕ) → n ≡ Ok count → count ≤ MAX_BODY)
        → event_wanted_by (n >>= (λ count. Ok (record {
          route = route;
          key = sha256 value;
          length = count;
        }))) ≤ MAX_BODY
    by_length value (Ok n) small = small n refl
    by_length value (Err e) small = omega arith

    small_body : (count : ℕ) → event_body_length route fields ≡ Ok count → count ≤ MAX_BODY
    small_body count is =
        elim (cases_Bool (has_body route)) [
          | inl has ↦ small_given fields count (simp has at is)
          | inr none ↦
              let zero : 0 ≡ count = let x = simp none at is in cc in
              subst (λ k. k ≤ MAX_BODY) zero (omega arith)
        ]

    by_value : (found : Option (List ℕ))
        → event_wanted_by (ok_or found refusals.KeyMissing >>= (λ value. event_body_length route fields
        >>= (λ count. Ok (record { route = route; key = sha256 value; length = count }))))
        ≤ MAX_BODY
    by_value None = omega arith
    by_value (Some value) = by_length value (event_body_length route fields) small_body

small-wanted : (head : RequestHead) → event_wanted_by (event_asking_of head) ≤ MAX_BODY
unfolding event_asking_of
small-wanted head = small-wanted-at (desk_route_of head.method head.target) (head_fields head)

-- no more can be wanted than fits in what came
pub own-most : (bytes start : List ℕ) (room : List HeaderSpan) (spans : RequestSpans) (wanted : ℕ)
    (after : List ℕ) (told : Bool) (head : RequestHead)
    → start ≡ start_of bytes
    → IsRequestWithin start room spans
    → wanted ≡ event_wanted_by (event_asking_of head)
    → after ≡ drop spans.len bytes
    → told ≡ nat_le wanted (length after)
    → MAX_REQUEST ≤ length bytes
    → told ≡ true
own-most bytes start room spans wanted after told head same within wants is tells long =
    let fits = within.section.len_fits in
    let small : wanted ≤ MAX_BODY =
    subst (λ k. k ≤ MAX_BODY) (sym wants) (small-wanted head) in
    let left : length after ≡ length (drop spans.len bytes) = ap length is in
    tells
    ∙ le-leb _ _ (omega (
      arith,
      fits,
      small,
      long,
      left,
      ap length same,
      length-take HEAD_LIMIT bytes,
      length-drop spans.len bytes,
    ))

-- without a head there is nothing to wait for
pub own-nothing : (bytes start : List ℕ)
    → start ≡ start_of bytes
    → BeginsWithNone start
    → OwnWhole bytes true
own-nothing bytes start same none = record {
  of_head = λ head begins. absurd (none-there bytes start same none head begins);
  of_none = λ _. refl;
  of_most = λ _. refl;
}

-- ---- the test of enough

pub call-whole : (bytes : List ℕ) → IsWholeEvent bytes → IsWhole bytes
call-whole bytes (whole_event head begins fits) =
    whole head begins (omega (arith, fits, call-wanted (call_asking_of head) (event_asking_of head)))
call-whole bytes (headless_event none long) = headless none long
call-whole bytes (crowded_event head rest reads many) = crowded head rest reads many

pub own-whole : (bytes : List ℕ) (told : Bool)
    → OwnWhole bytes told
    → IsWholeEvent bytes
    → told ≡ true
own-whole bytes told own (whole_event head begins fits) =
    own.of_head head begins ∙ le-leb _ _ (omega (arith, fits, own-wanted head))
own-whole bytes told own (headless_event none long) = own.of_none none
own-whole bytes told own (crowded_event head rest reads many) =
    own.of_none (crowded_none (start_of bytes) head rest reads many)

pub own-never : (bytes : List ℕ) (told : Bool)
    → OwnWhole bytes told
    → NeverBegins (start_of bytes)
    → told ≡ true
own-never bytes told own never =
    own.of_none (λ head begins.
    never.never [] head begins.rest
    (subst (λ t. ReadsRequest t head begins.rest) (sym (append-nil (start_of bytes)))
    begins.reads))

-- ---- more bytes

-- a body that is whole is read as before
asked-more : (a : Asking) (target after more : List ℕ)
    → a.length ≤ length after
    → event_asked a target (after ++ more) ≡ event_asked a target after
unfolding event_asked
asked-more a target after more fits =
    let long : nat_le a.length (length after) ≡ true = le-leb _ _ fits in
    let longer : nat_le a.length (length (after ++ more)) ≡ true =
    le-leb _ _ (omega (arith, fits, length-append after more)) in
    rw (long, longer, take-append-le a.length after more fits) refl

request-more : (head : RequestHead) (after more : List ℕ)
    → event_wanted_by (event_asking_of head) ≤ length after
    → event_request_of head (after ++ more) ≡ event_request_of head after
request-more head after more fits = by_asking (event_asking_of head) fits
  where
    by_asking : (r : Result Asking WebRefusal)
        → event_wanted_by r ≤ length after
        → (r >>= (λ a. event_asked a head.target (after ++ more)))
        ≡ (r >>= (λ a. event_asked a head.target after))
    by_asking (Ok a) fits = asked-more a head.target after more fits
    by_asking (Err e) fits = refl

answer-more : (bytes more : List ℕ) (head : RequestHead)
    → BeginsWith (start_of bytes) head
    → event_wanted_by (event_asking_of head) ≤ length (after_head head bytes)
    → event_request_of head (after_head head (bytes ++ more))
    ≡ event_request_of head (after_head head bytes)
answer-more bytes more head begins fits =
    ap (event_request_of head)
    (drop-append-le (length (print_request head)) bytes more (head_fits bytes head begins))
    ∙ request-more head (after_head head bytes) more fits

-- a request that is whole is read alike however it goes on
pub event-alike : (bytes more : List ℕ) (told : Bool)
    → ReadAlike (bytes ++ more) bytes
    → OwnWhole bytes told
    → told ≡ true
    → EventReadAlike (bytes ++ more) bytes
event-alike bytes more told http own is outcome = (
  λ reads. elim reads [
    | of_call read there other given ↦ of_call read ((http read).0 there) other given
    | of_desk there head begins given ↦ back ((http (Err refusals.NoRoute)).0 there) head begins given
  ],
  λ reads. elim reads [
    | of_call read there other given ↦ of_call read ((http read).1 there) other given
    | of_desk there head begins given ↦
        of_desk ((http (Err refusals.NoRoute)).1 there) head (begins_more bytes more head begins)
        (given ∙ sym (answer-more bytes more head begins (fits head begins)))
  ],
)
  where
    fits : (head : RequestHead)
        → BeginsWith (start_of bytes) head
        → event_wanted_by (event_asking_of head) ≤ length (after_head head bytes)
    fits head begins = leb-true _ _ (sym (own.of_head head begins) ∙ is)

    back : HttpReads bytes (Err refusals.NoRoute)
        → (head : RequestHead)
        → BeginsWith (start_of (bytes ++ more)) head
        → outcome ≡ event_request_of head (after_head head (bytes ++ more))
        → EventReads bytes outcome
    back (of_head k begun asks) head begins given =
        let same : head ≡ k =
        one_head (start_of (bytes ++ more)) head k begins (begins_more bytes more k begun) in
        of_desk (of_head k begun asks) k begun
        (given ∙ ap (λ h. event_request_of h (after_head h (bytes ++ more))) same
        ∙ answer-more bytes more k begun (fits k begun))
    back (of_none none asks) head begins given = absurd (let x = asks in cc)
