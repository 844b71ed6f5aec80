-- The head of a request (RFC 9112, sections 2 to 5), by the grammar of httparse at its default
-- configuration, and the fields in it.
use Rattle.std.specs.Prelude.{ℕ, ◌≤◌, Bool, List, [], ◌∷◌, ◌++◌, length, map, take, drop, Option, Some, None, ⊤}
use Rattle.std.specs.List.{filter, list_any}
use Rattle.std.specs.Str.{str_eq_ignore_ascii_case}
use Rattle.httparse.specs.declared.spans.HeaderSpan.{HeaderSpan}
use Rattle.httparse.specs.declared.spans.RequestSpans.{RequestSpans}
use Rattle.httparse.specs.Grammar.{EndsInTarget, HasNoRequest, MayBecomeRequest, NeverHasRequest, ReadsRequest, RequestHead, print_request}
use Rattle.httparse.specs.Spans.{IsRequestAt, IsRequestWithin, name_and_value}
use Rattle.bp_web.specs.declared.heads.Begin.{Begin}
use Rattle.bp_web.specs.declared.heads.Begin.TheVariants as begins
use Rattle.bp_web.specs.declared.heads.TheConstants.{HEAD_LIMIT, MAX_FIELDS}

-- these bytes begin with this head, which has no more fields than a head may have
pub record BeginsWith (start : List ℕ) (head : RequestHead) : Type 0 where
  pub rest : List ℕ
  pub reads : ReadsRequest start head rest
  pub few : length head.fields ≤ MAX_FIELDS

-- they begin with no such head
abbrev pub BeginsWithNone : List ℕ → Type 0
BeginsWithNone start = (head : RequestHead) → ¬ (BeginsWith start head)

-- no bytes can follow that make a head of them, and that is known: a target is tested for UTF-8 at
-- its end, so that until then nothing is
pub record NeverBegins (start : List ℕ) : Type 0 where
  pub never : NeverHasRequest start
  pub known : ¬ (EndsInTarget start)

-- the bytes within which a head ends
abbrev pub start_of : List ℕ → List ℕ
start_of bytes = take HEAD_LIMIT bytes

-- what follows the head
abbrev pub after_head : RequestHead → List ℕ → List ℕ
after_head head bytes = drop (length (print_request head)) bytes

-- ---- fields

-- a field's name and its value, without the white space around it
abbrev pub Field : Type 0
Field = List ℕ × List ℕ

-- the fields of a head, in order
abbrev pub head_fields : RequestHead → List Field
head_fields head = map name_and_value head.fields

-- the fields of that name, without regard to ASCII case (RFC 9110, section 5.1)
abbrev pub named : List ℕ → List Field → List Field
named name fields = filter (λ field. str_eq_ignore_ascii_case field.0 name) fields

-- the value, where there is exactly one
abbrev pub only_value : List Field → Option (List ℕ)
only_value [] = None
only_value (field ∷ []) = Some field.1
only_value (field ∷ other ∷ fields) = None

-- the value of the field of that name, where there is exactly one
abbrev pub value_of : List ℕ → List Field → Option (List ℕ)
value_of name fields = only_value (named name fields)

-- whether a field of that name is there
abbrev pub has_head_field : List ℕ → List Field → Bool
has_head_field name fields = list_any (λ field. str_eq_ignore_ascii_case field.0 name) fields

-- ---- what httparse finds

-- a head is at the front, and these spans cover its parts
pub record HasHead (start : List ℕ) (room : List HeaderSpan) (spans : RequestSpans) : Type 0 where
  pub head : RequestHead
  pub begins : BeginsWith start head
  pub at : IsRequestAt start room spans head

-- a head; or none, however many fields it may have, which more bytes may make; or none, whatever
-- follows
abbrev pub FindsHead : List ℕ → List HeaderSpan → Begin → Type 0
FindsHead start room (begins.Head spans) = HasHead start room spans
FindsHead start room begins.Open = HasNoRequest start × MayBecomeRequest start
FindsHead start room begins.Closed = (more : List ℕ) → BeginsWithNone (start ++ more)

-- the spans lie within the bytes
abbrev pub IsWithin : List ℕ → List HeaderSpan → Begin → Type 0
IsWithin start room (begins.Head spans) = IsRequestWithin start room spans
IsWithin start room _ = ⊤
