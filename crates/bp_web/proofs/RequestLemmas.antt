-- What a request is read as: once, and alike however it goes on; and when its bytes are enough.
use Rattle.std.proofs.Common.{◌≡◌, ◌≤◌, ◌<◌, ◌+◌, ℕ, zero, suc, true, false, List, [], ◌∷◌, ◌++◌, length, take, drop, map, All, Option, Some, None, Result, Ok, Err, refl, sym, ap, ◌∙◌, subst, arith, append_assoc, codes, inl, inr}
use Rattle.std.specs.Prelude.{nat_le}
use Rattle.std.specs.Option.{ok_or, option_and_then}
use Rattle.std.specs.Str.{IsUtf8}
use Rattle.std.proofs.lemmas.Bool.{cases_Bool, le-leb, leb-true, lt-leb}
use Rattle.std.proofs.lemmas.List.{append-nil, length-take, length-drop, length-append, take-append-le, drop-append-le}
use Rattle.std.proofs.lemmas.List.Elements.{All-weaker}
use Rattle.httparse.specs.declared.spans.HeaderSpan.{HeaderSpan}
use Rattle.httparse.specs.declared.spans.RequestSpans.{RequestSpans}
use Rattle.httparse.specs.Grammar.{HasNoRequest, MayBecomeRequest, ReadsRequest, RequestHead, print_request}
use Rattle.httparse.specs.Spans.{IsHeaderWithin, IsRequestWithin, IsSectionWithin, header_bytes, span_bytes}
use Rattle.httparse.proofs.GrammarLemmas.{ReadsRequest-append, request_unique}
use Rattle.bp_matter.specs.declared.calls.Call.{Call}
use Rattle.bp_web.specs.Calls.{call_of}
use Rattle.sha2.specs.Sha256.{sha256}
use Rattle.bp_web.specs.Heads.{BeginsWith, BeginsWithNone, HasHead, NeverBegins, after_head, head_fields, has_head_field, start_of, value_of}
use Rattle.bp_web.specs.Numbers.{number_of}
use Rattle.bp_web.specs.Requests.{EndsAt, HttpReads, IsOpen, IsWhole, ReadAlike, asked_of, asking_at, asking_of, body_length, crowded, data_of, demand, given_length, headless, of_head, of_none, whole_request, wanted_by, whole, ◌>>=◌}
use Rattle.bp_web.specs.Routes.{is_get, route_of}
use Rattle.bp_web.specs.declared.heads.TheConstants.{HEAD_LIMIT, MAX_FIELDS}
use Rattle.bp_web.specs.declared.refusals.WebRefusal.{WebRefusal}
use Rattle.bp_web.specs.declared.refusals.WebRefusal.TheVariants as refusals
use Rattle.bp_web.specs.declared.requests.Asked.{Asked}
use Rattle.bp_web.specs.declared.requests.Asking.{Asking}
use Rattle.bp_web.specs.declared.requests.TheConstants.{MAX_BODY, MAX_REQUEST}
use Rattle.bp_web.specs.declared.routes.Route.{Route}

-- ---- one head

pub one_head : (start : List ℕ) (h k : RequestHead) → BeginsWith start h → BeginsWith start k → h ≡ k
one_head start h k a b = (request_unique start h k a.rest b.rest a.reads b.reads).0

pub reads_once : (bytes : List ℕ) (a b : Result Asked WebRefusal)
    → HttpReads bytes a
    → HttpReads bytes b
    → a ≡ b
reads_once bytes a b (of_head h begins is) (of_head k others same) =
    is ∙ ap (λ head. whole_request head (after_head head bytes)) (one_head (start_of bytes) h k begins others) ∙ sym same
reads_once bytes a b (of_head h begins is) (of_none none same) = absurd (none h begins)
reads_once bytes a b (of_none none is) (of_head k others same) = absurd (none k others)
reads_once bytes a b (of_none none is) (of_none other same) = is ∙ sym same

-- ---- what the code finds

-- the head that was found at the front of the bytes
pub record Found (bytes start : List ℕ) (room : List HeaderSpan) (spans : RequestSpans) : Type 0 where
  pub is_start : start ≡ start_of bytes
  pub has : HasHead start room spans

pub fields_within : (start : List ℕ) (headers : List HeaderSpan) (len count : ℕ)
    → IsSectionWithin start headers len count
    → All (IsHeaderWithin (length start)) (take count headers)
fields_within start headers len count section =
    let fits = section.len_fits in
    All-weaker (IsHeaderWithin len) (IsHeaderWithin (length start))
    (λ h w. ((w.0.0, omega (arith, w.0.1, fits)), (w.1.0, omega (arith, w.1.1, fits)))) (take count headers) section.headers_fit

pub spans_fit : (bytes start : List ℕ) (room : List HeaderSpan) (spans : RequestSpans)
    → start ≡ start_of bytes
    → IsRequestWithin start room spans
    → spans.len ≤ length bytes
spans_fit bytes start room spans same within =
    let fits = within.section.len_fits in
    omega (arith, fits, ap length same, length-take HEAD_LIMIT bytes)

pub target_utf8 : (bytes start : List ℕ) (room : List HeaderSpan) (spans : RequestSpans)
    → (f : Found bytes start room spans) (target : List ℕ)
    → target ≡ span_bytes start spans.path
    → IsUtf8 target
target_utf8 bytes start room spans f target is =
    subst IsUtf8 (sym (is ∙ f.has.at.path)) f.has.begins.reads.0.target_text

asking_same : (bytes start : List ℕ) (room : List HeaderSpan) (spans : RequestSpans)
    → (f : Found bytes start room spans)
    → asking_at (route_of (span_bytes start spans.method) (span_bytes start spans.path))
    (map (header_bytes start) (take spans.headers room))
    ≡ asking_of f.has.head
unfolding asking_of
asking_same bytes start room spans f =
    let at = f.has.at in
    rw (at.method, at.path, at.fields) refl

pub asking_found : (bytes start : List ℕ) (room : List HeaderSpan) (spans : RequestSpans)
    → (f : Found bytes start room spans)
    → (method target : List ℕ) (route : Option Route) (r : Result Asking WebRefusal)
    → method ≡ span_bytes start spans.method
    → target ≡ span_bytes start spans.path
    → route ≡ route_of method target
    → r ≡ asking_at route (map (header_bytes start) (take spans.headers room))
    → r ≡ asking_of f.has.head
asking_found bytes start room spans f method target route r m t is asks =
    let at : route ≡ route_of (span_bytes start spans.method) (span_bytes start spans.path) = is ∙ ap (λ x. route_of x target) m ∙ ap (route_of (span_bytes start spans.method)) t in
    asks ∙ ap (λ x. asking_at x (map (header_bytes start) (take spans.headers room))) at ∙ asking_same bytes start room spans f

-- so many bytes are to come after the head that was found
pub wanted_found : (bytes start : List ℕ) (room : List HeaderSpan) (spans : RequestSpans)
    → (f : Found bytes start room spans)
    → (method target : List ℕ) (route : Option Route) (n : ℕ)
    → method ≡ span_bytes start spans.method
    → target ≡ span_bytes start spans.path
    → route ≡ route_of method target
    → n ≡ wanted_by (asking_at route (map (header_bytes start) (take spans.headers room)))
    → wanted_by (asking_of f.has.head) ≡ n
wanted_found bytes start room spans f method target route n m t is wants =
    let asks = asking_found bytes start room spans f method target route _ m t is refl in
    sym (wants ∙ ap wanted_by asks)

pub begins_there : (bytes start : List ℕ) (room : List HeaderSpan) (spans : RequestSpans)
    → (f : Found bytes start room spans)
    → BeginsWith (start_of bytes) f.has.head
begins_there bytes start room spans f = subst (λ s. BeginsWith s f.has.head) f.is_start f.has.begins

pub after_same : (bytes start : List ℕ) (room : List HeaderSpan) (spans : RequestSpans)
    → (f : Found bytes start room spans)
    → drop spans.len bytes ≡ after_head f.has.head bytes
after_same bytes start room spans f = ap (λ n. drop n bytes) f.has.at.len

pub reads_refused : (bytes start : List ℕ) (room : List HeaderSpan) (spans : RequestSpans)
    → (f : Found bytes start room spans) (e : WebRefusal)
    → asking_of f.has.head ≡ Err e
    → HttpReads bytes (Err e)
reads_refused bytes start room spans f e is =
    of_head f.has.head (begins_there bytes start room spans f)
    (sym (ap (λ r. r >>= (λ a. asked_of a f.has.head.target (after_head f.has.head bytes))) is))

pub reads_asked : (bytes start : List ℕ) (room : List HeaderSpan) (spans : RequestSpans)
    → (f : Found bytes start room spans) (a : Asking) (r : Result Asked WebRefusal)
    → asking_of f.has.head ≡ Ok a
    → r ≡ asked_of a (span_bytes start spans.path) (drop spans.len bytes)
    → HttpReads bytes r
reads_asked bytes start room spans f a r is same =
    of_head f.has.head (begins_there bytes start room spans f)
    (same ∙ ap (λ t. asked_of a t (drop spans.len bytes)) f.has.at.path
    ∙ ap (asked_of a f.has.head.target) (after_same bytes start room spans f)
    ∙ sym (ap (λ r. r >>= (λ a. asked_of a f.has.head.target (after_head f.has.head bytes))) is))

pub reads_none : (bytes start : List ℕ)
    → start ≡ start_of bytes
    → BeginsWithNone start
    → HttpReads bytes (Err refusals.HeadRefused)
reads_none bytes start same none = of_none (subst BeginsWithNone same none) refl

pub nothing_more : (start : List ℕ)
    → ((more : List ℕ) → BeginsWithNone (start ++ more))
    → BeginsWithNone start
nothing_more start never = subst BeginsWithNone (append-nil start) (never [])

pub reads_never : (bytes start : List ℕ)
    → start ≡ start_of bytes
    → ((more : List ℕ) → BeginsWithNone (start ++ more))
    → HttpReads bytes (Err refusals.HeadRefused)
reads_never bytes start same never = reads_none bytes start same (nothing_more start never)

-- ---- the body

pub asked_short : (a : Asking) (target after : List ℕ)
    → length after < a.length
    → Err refusals.BodyRefused ≡ asked_of a target after
unfolding asked_of
asked_short a target after short =
    let no : nat_le a.length (length after) ≡ false = lt-leb _ _ short in
    simp no refl

-- what is asked for, where the call was found
abbrev pub asked_if : List ℕ → Option Call → Result Asked WebRefusal
asked_if key None = Err refusals.BodyRefused
asked_if key (Some call) = Ok (record { key = key; call = call })

pub asked_found : (a : Asking) (target after : List ℕ) (found : Option Call)
    → a.length ≤ length after
    → found ≡ option_and_then (call_of a.route target) (data_of a.route (take a.length after))
    → asked_if a.key found ≡ asked_of a target after
unfolding asked_of
asked_found a target after found long is =
    let fits : nat_le a.length (length after) ≡ true = le-leb _ _ long in
    simp fits (by_call found (option_and_then (call_of a.route target) (data_of a.route (take a.length after))) is)
  where
    by_call : (x y : Option Call) → x ≡ y
        → asked_if a.key x ≡ (ok_or y refusals.BodyRefused >>= (λ call. Ok (record { key = a.key; call = call })))
    by_call x y same = ap (asked_if a.key) same ∙ both y
      where
        both : (y : Option Call) → asked_if a.key y ≡ (ok_or y refusals.BodyRefused >>= (λ call. Ok (record { key = a.key; call = call })))
        both None = refl
        both (Some call) = refl

-- no longer body is read
pub small_given : (fields : List (List ℕ × List ℕ)) (count : ℕ)
    → given_length fields ≡ Ok count
    → count ≤ MAX_BODY
small_given fields count is =
    elim (cases_Bool (has_head_field (codes "transfer-encoding") fields)) [
      | inl chunked ↦ absurd (let x = simp chunked at is in cc)
      | inr plain ↦ by_number (option_and_then number_of (value_of (codes "content-length") fields)) (simp plain at is)
    ]
  where
    by_number : (found : Option ℕ)
        → (ok_or found refusals.BodyRefused >>= (λ n. demand (nat_le n MAX_BODY) refusals.BodyLimit >>= (λ _. Ok n))) ≡ Ok count
        → count ≤ MAX_BODY
    by_number None is = absurd (cc)
    by_number (Some n) is =
        elim (cases_Bool (nat_le n MAX_BODY)) [
          | inl fits ↦ let same : n ≡ count = let x = simp fits at is in cc in subst (λ k. k ≤ MAX_BODY) same (leb-true n MAX_BODY fits)
          | inr over ↦ absurd (let x = simp over at is in cc)
        ]

small_asking : (found : Option Route) (fields : List (List ℕ × List ℕ)) (a : Asking)
    → Ok a ≡ asking_at found fields
    → a.length ≤ MAX_BODY
small_asking None fields a is = absurd (cc)
small_asking (Some route) fields a is = by_value (value_of (codes "desk-key") fields) (sym is)
  where
    by_length : (value : List ℕ) (n : Result ℕ WebRefusal)
        → ((count : ℕ) → n ≡ Ok count → count ≤ MAX_BODY)
        → (n >>= (λ count. Ok (record { route = route; key = sha256 value; length = count }))) ≡ Ok a
        → a.length ≤ MAX_BODY
    by_length value (Ok n) small is = let same : n ≡ a.length = cc in subst (λ k. k ≤ MAX_BODY) same (small n refl)
    by_length value (Err e) small is = absurd (cc)

    small_body : (count : ℕ) → body_length route fields ≡ Ok count → count ≤ MAX_BODY
    small_body count is =
        elim (cases_Bool (is_get route)) [
          | inl get ↦ let none : 0 ≡ count = let x = simp get at is in cc in subst (λ k. k ≤ MAX_BODY) none (omega arith)
          | inr post ↦ small_given fields count (simp post at is)
        ]

    by_value : (found : Option (List ℕ))
        → (ok_or found refusals.KeyMissing >>= (λ value. body_length route fields
        >>= (λ count. Ok (record { route = route; key = sha256 value; length = count })))) ≡ Ok a
        → a.length ≤ MAX_BODY
    by_value None is = absurd (cc)
    by_value (Some value) is = by_length value (body_length route fields) small_body is

pub small_body : (head : RequestHead) (a : Asking) → asking_of head ≡ Ok a → a.length ≤ MAX_BODY
unfolding asking_of
small_body head a is = small_asking (route_of head.method head.target) (head_fields head) a (sym is)

-- what is to come after a head is no longer than a body may be
pub small_wanted : (head : RequestHead) → wanted_by (asking_of head) ≤ MAX_BODY
small_wanted head = by_asking (asking_of head) refl
  where
    by_asking : (r : Result Asking WebRefusal) → asking_of head ≡ r → wanted_by r ≤ MAX_BODY
    by_asking (Ok a) is = small_body head a is
    by_asking (Err e) is = omega arith

-- ---- more bytes

take_front : (n : ℕ) (xs ys : List ℕ) → (rest : List ℕ) × (take n (xs ++ ys) ≡ take n xs ++ rest)
take_front zero xs ys = ([], refl)
take_front (suc n) [] ys = (take (suc n) ys, refl)
take_front (suc n) (x ∷ xs) ys = let r = take_front n xs ys in (r.0, ap (λ t. x ∷ t) r.1)

start_more : (bytes more : List ℕ)
    → (rest : List ℕ) × (start_of (bytes ++ more) ≡ start_of bytes ++ rest)
start_more bytes more = take_front HEAD_LIMIT bytes more

-- a head that is there stays
pub begins_more : (bytes more : List ℕ) (head : RequestHead)
    → BeginsWith (start_of bytes) head
    → BeginsWith (start_of (bytes ++ more)) head
begins_more bytes more head begins =
    let s = start_more bytes more in
    record {
      rest = begins.rest ++ s.0;
      reads = subst (λ t. ReadsRequest t head (begins.rest ++ s.0)) (sym s.1) (ReadsRequest-append (start_of bytes) head begins.rest s.0 begins.reads);
      few = begins.few;
    }

pub head_fits : (bytes : List ℕ) (head : RequestHead)
    → BeginsWith (start_of bytes) head
    → length (print_request head) ≤ length bytes
head_fits bytes head begins =
    let n = ap length begins.reads.1 in
    omega (arith, n, length-append (print_request head) begins.rest, length-take HEAD_LIMIT bytes)

-- a body that is whole is read as before
asked_more : (a : Asking) (target after more : List ℕ)
    → a.length ≤ length after
    → asked_of a target (after ++ more) ≡ asked_of a target after
unfolding asked_of
asked_more a target after more fits =
    let long : nat_le a.length (length after) ≡ true = le-leb _ _ fits in
    let longer : nat_le a.length (length (after ++ more)) ≡ true = le-leb _ _ (omega (arith, fits, length-append after more)) in
    rw (long, longer, take-append-le a.length after more fits) refl

request_more : (head : RequestHead) (after more : List ℕ)
    → wanted_by (asking_of head) ≤ length after
    → whole_request head (after ++ more) ≡ whole_request head after
request_more head after more fits = by_asking (asking_of head) fits
  where
    by_asking : (r : Result Asking WebRefusal)
        → wanted_by r ≤ length after
        → (r >>= (λ a. asked_of a head.target (after ++ more))) ≡ (r >>= (λ a. asked_of a head.target after))
    by_asking (Ok a) fits = asked_more a head.target after more fits
    by_asking (Err e) fits = refl

answer_more : (bytes more : List ℕ) (head : RequestHead)
    → BeginsWith (start_of bytes) head
    → wanted_by (asking_of head) ≤ length (after_head head bytes)
    → whole_request head (after_head head (bytes ++ more)) ≡ whole_request head (after_head head bytes)
answer_more bytes more head begins fits =
    ap (whole_request head) (drop-append-le (length (print_request head)) bytes more (head_fits bytes head begins))
    ∙ request_more head (after_head head bytes) more fits

none_more : (bytes more : List ℕ)
    → HEAD_LIMIT ≤ length bytes
    → start_of (bytes ++ more) ≡ start_of bytes
none_more bytes more long = take-append-le HEAD_LIMIT bytes more long

-- without a head all bytes are read alike
alike_none : (a b : List ℕ)
    → BeginsWithNone (start_of a)
    → BeginsWithNone (start_of b)
    → ReadAlike a b
alike_none a b none other outcome = (
  λ reads. elim reads [
    | of_head k begins is ↦ absurd (none k begins)
    | of_none same is ↦ of_none other is
  ],
  λ reads. elim reads [
    | of_head k begins is ↦ absurd (other k begins)
    | of_none same is ↦ of_none none is
  ],
)

-- a head that has too many fields is the only one
pub crowded_none : (start : List ℕ) (head : RequestHead) (rest : List ℕ)
    → ReadsRequest start head rest
    → MAX_FIELDS < length head.fields
    → BeginsWithNone start
crowded_none start head rest reads many other begins =
    let same = (request_unique start other head begins.rest rest begins.reads reads).0 in
    let few : length head.fields ≤ MAX_FIELDS =
    subst (λ h. length h.fields ≤ MAX_FIELDS) same begins.few in
    absurd (omega (arith, few, many))

-- and stays so
crowded_more : (bytes more : List ℕ) (head : RequestHead) (rest : List ℕ)
    → ReadsRequest (start_of bytes) head rest
    → MAX_FIELDS < length head.fields
    → BeginsWithNone (start_of (bytes ++ more))
crowded_more bytes more head rest reads many =
    let s = start_more bytes more in
    let longer : ReadsRequest (start_of (bytes ++ more)) head (rest ++ s.0) =
    subst (λ t. ReadsRequest t head (rest ++ s.0)) (sym s.1)
    (ReadsRequest-append (start_of bytes) head rest s.0 reads) in
    crowded_none (start_of (bytes ++ more)) head (rest ++ s.0) longer many

-- a whole request is read alike however it goes on
alike : (bytes more : List ℕ) → IsWhole bytes → ReadAlike (bytes ++ more) bytes
alike bytes more (whole head begins fits) outcome = (
  λ reads. elim reads [
    | of_head k others is ↦
        of_head head begins (is ∙ ap (λ h. whole_request h (after_head h (bytes ++ more))) (one_head (start_of (bytes ++ more)) k head others (begins_more bytes more head begins))
        ∙ answer_more bytes more head begins fits)
    | of_none none is ↦ absurd (none head (begins_more bytes more head begins))
  ],
  λ reads. elim reads [
    | of_head k others is ↦
        of_head head (begins_more bytes more head begins) (is ∙ ap (λ h. whole_request h (after_head h bytes)) (one_head (start_of bytes) k head others begins)
        ∙ sym (answer_more bytes more head begins fits))
    | of_none none is ↦ absurd (none head begins)
  ],
)
alike bytes more (headless none long) outcome =
    alike_none (bytes ++ more) bytes (subst BeginsWithNone (sym (none_more bytes more long)) none) none outcome
alike bytes more (crowded head rest reads many) outcome =
    alike_none (bytes ++ more) bytes (crowded_more bytes more head rest reads many)
    (crowded_none (start_of bytes) head rest reads many) outcome

-- ---- how many bytes are enough

-- with a head: it, and the body that it wants
pub ends_at : (bytes start : List ℕ) (room : List HeaderSpan) (spans : RequestSpans)
    → (f : Found bytes start room spans) (n : ℕ)
    → wanted_by (asking_of f.has.head) ≡ n
    → EndsAt bytes (spans.len + n)
ends_at bytes start room spans f n is = record {
  alike = λ more rest long.
      alike (bytes ++ more) rest (whole head (begins_more bytes more head begins) (
      omega (arith, is, len, long, length-drop (length (print_request head)) (bytes ++ more))
      ));
  first = λ more w. elim w [
    | whole k others fits ↦
        let one = one_head (start_of (bytes ++ more)) k head others (begins_more bytes more head begins) in
        let wants : wanted_by (asking_of head) ≤ length (after_head head (bytes ++ more)) =
        subst (λ h. wanted_by (asking_of h) ≤ length (after_head h (bytes ++ more))) one fits in
        omega (arith, is, len, wants, head_fits bytes head begins, length-append bytes more, length-drop (length (print_request head)) (bytes ++ more))
    | headless none long ↦ absurd (none head (begins_more bytes more head begins))
    | crowded k rest reads many ↦
        absurd (crowded_none (start_of (bytes ++ more)) k rest reads many head (begins_more bytes more head begins))
  ];
  never = λ never. absurd (never.never [] head begins.rest (subst (λ t. ReadsRequest t head begins.rest) (sym (append-nil (start_of bytes))) begins.reads));
}
  where
    head : RequestHead
    head = f.has.head

    begins : BeginsWith (start_of bytes) head
    begins = begins_there bytes start room spans f

    len : spans.len ≡ length (print_request head)
    len = f.has.at.len

-- without one: as many as a head may have
pub ends_headless : (bytes start : List ℕ)
    → start ≡ start_of bytes
    → BeginsWithNone start
    → HEAD_LIMIT ≤ length bytes
    → EndsAt bytes HEAD_LIMIT
ends_headless bytes start same none long = record {
  alike = λ more rest _.
      alike (bytes ++ more) rest
      (headless (subst BeginsWithNone (same ∙ sym (none_more bytes more long)) none) (omega (arith, long, length-append bytes more)));
  first = λ more w. omega (arith, long, length-append bytes more);
  never = λ never. long;
}

-- where none can come: those that are there
pub ends_here : (bytes start : List ℕ)
    → start ≡ start_of bytes
    → ((more : List ℕ) → BeginsWithNone (start ++ more))
    → EndsAt bytes (length start)
ends_here bytes start same never = record {
  alike = λ more rest _. alike_none (bytes ++ more ++ rest) (bytes ++ more) (subst (λ b. BeginsWithNone (start_of b)) (sym (append_assoc bytes more rest)) (none (more ++ rest))) (none more);
  first = λ more w. omega (arith, fits, length-append bytes more);
  never = λ never. fits;
}
  where
    fits : length start ≤ length bytes
    fits = omega (arith, ap length same, length-take HEAD_LIMIT bytes)

    none : (more : List ℕ) → BeginsWithNone (start_of (bytes ++ more))
    none more = let s = start_more bytes more in subst BeginsWithNone (ap (λ t. t ++ s.0) same ∙ sym s.1) (never s.0)

-- no more than a request may have
pub most_bytes : (bytes start : List ℕ) (room : List HeaderSpan) (spans : RequestSpans) (n : ℕ)
    → start ≡ start_of bytes
    → IsRequestWithin start room spans
    → n ≤ MAX_BODY
    → spans.len + n ≤ MAX_REQUEST
most_bytes bytes start room spans n same within small =
    let fits = within.section.len_fits in
    omega (arith, fits, small, ap length same, length-take HEAD_LIMIT bytes)

pub most_headless : (bytes start : List ℕ)
    → start ≡ start_of bytes
    → length start ≤ MAX_REQUEST
most_headless bytes start same = omega (arith, ap length same, length-take HEAD_LIMIT bytes)

-- a head may still come
pub waits_for_head : (bytes start : List ℕ)
    → start ≡ start_of bytes
    → HasNoRequest start
    → MayBecomeRequest start
    → length bytes < HEAD_LIMIT
    → IsOpen bytes
waits_for_head bytes start same none may short = record {
  none = subst HasNoRequest same none;
  short = short;
  may = subst MayBecomeRequest same may;
}

-- ---- the test of enough

-- with nothing more
pub alike_here : (bytes more : List ℕ) (n : ℕ)
    → EndsAt bytes n
    → n ≤ length bytes
    → ReadAlike (bytes ++ more) bytes
alike_here bytes more n ends fits =
    let nil = append-nil bytes in
    subst (λ b. ReadAlike (b ++ more) b) nil (ends.alike [] more (omega (arith, fits, ap length nil)))

pub first_here : (bytes : List ℕ) (n : ℕ) → EndsAt bytes n → IsWhole bytes → n ≤ length bytes
first_here bytes n ends w =
    let nil = append-nil bytes in
    omega (arith, ends.first [] (subst IsWhole (sym nil) w), ap length nil)

pub not_whole : (bytes : List ℕ) → IsOpen bytes → ¬ (IsWhole bytes)
not_whole bytes waits (whole head begins fits) = waits.none head begins.rest begins.reads
not_whole bytes waits (crowded head rest reads many) = waits.none head rest reads
not_whole bytes waits (headless none long) = absurd (omega (arith, waits.short, long))

pub not_never : (bytes : List ℕ) → IsOpen bytes → ¬ (NeverBegins (start_of bytes))
not_never bytes waits never =
    elim waits.may [
      | inl (more, head, reads) ↦ never.never more head [] reads
      | inr ends ↦ never.known ends
    ]
