-- Worked examples of requests, each run by the check: the limits, the routes, the order of the
-- refusals, and what is a number, a member and an object.
use Rattle.std.proofs.Common.{◌≡◌, ◌+◌, ℕ, List, [], ◌∷◌, ◌++◌, length, codes, Option, Some, None, Ok, Err, replicate, true, refl, arith}
use Rattle.std.specs.Option.{option_and_then, option_map}
use Rattle.std.specs.Str.{chars, is_utf8}
use Rattle.std.proofs.Math.Utf8.{encode}
use Rattle.std.proofs.lemmas.List.Elements.{All-cons, All-nil}
use Rattle.std.proofs.lemmas.List.Sums.{AllPass-from_list_all}
use Rattle.std.proofs.lemmas.Str.{IsUtf8-from_is_utf8}
use Rattle.httparse.specs.Grammar.{IsField, IsRequestHead, RequestHead, crlf, is_token_byte, is_uri_byte, is_value_byte, lf}
use Rattle.hex.specs.Hex.{decode_pairs}
use Rattle.httparse.proofs.OnLiterals.{httparse_on_literals}
use Rattle.serde_json.proofs.OnLiterals.{serde_json_on_literals}
use Rattle.sha2.specs.Sha256.{sha256}
use Rattle.bp_core.specs.declared.review.Basis.TheVariants.{Wp}
use Rattle.bp_core.specs.declared.review.Role.TheVariants.{Receiver}
use Rattle.bp_core.specs.declared.review.Treatment.TheVariants.{Produce, Withhold}
use Rattle.bp_matter.specs.declared.calls.Call.{Call}
use Rattle.bp_matter.specs.declared.calls.Call.TheVariants.{Confirm, Find, Plan, SeeDoc, SeeProductions, SeeStaff, SeeStates, SeeValues, SetCall}
use Rattle.bp_web.specs.Calls.{call_of, doc_no, number, prefix_of}
use Rattle.bp_web.specs.Heads.{BeginsWith, start_of, value_of}
use Rattle.bp_web.specs.Members.{basis_named, digest_named, object_of, role_named, treatment_named}
use Rattle.bp_web.specs.Requests.{HttpReads, asked_of, asking_at, asking_of, body_length, of_head}
use Rattle.bp_web.specs.Routes.{fits, get, next_of, post, route_of}
use Rattle.bp_web.specs.declared.heads.TheConstants.{HEAD_LIMIT, MAX_FIELDS}
use Rattle.bp_web.specs.declared.members.TheConstants.{DIGEST_BYTES, MAX_NUMBER, MAX_WIDTH}
use Rattle.bp_core.specs.declared.digits.TheConstants.{MOST_DIGITS}
use Rattle.bp_web.specs.declared.refusals.WebRefusal.TheVariants as refusals
use Rattle.bp_web.specs.declared.requests.TheConstants.{MAX_BODY, MAX_REQUEST}
use Rattle.bp_web.specs.declared.routes.Route.TheVariants as routes
use Rattle.bp_web.specs.declared.routes.TheConstants.{ROUTES}

-- ---- the limits

head_limit : HEAD_LIMIT ≡ 16384
head_limit = refl

most_fields : MAX_FIELDS ≡ 32
most_fields = refl

most_body : MAX_BODY ≡ 1048576
most_body = refl

most_request : MAX_REQUEST ≡ HEAD_LIMIT + MAX_BODY
most_request = refl

most_digits : MOST_DIGITS ≡ 9
most_digits = refl

most_number : MAX_NUMBER ≡ 4294967295
most_number = refl

most_width : MAX_WIDTH ≡ 255
most_width = refl

digest_bytes : DIGEST_BYTES ≡ 32
digest_bytes = refl

twenty_routes : length ROUTES ≡ 20
twenty_routes = refl

-- ---- routes

add_staff : route_of post (codes "/staff") ≡ Some routes.AddStaff
unfolding route_of fits next_of
add_staff = refl

see_doc : route_of get (codes "/docs/999999999") ≡ Some routes.SeeDoc
unfolding route_of fits next_of
see_doc = refl

see_page : route_of get (codes "/docs/12/pages/3") ≡ Some routes.SeePage
unfolding route_of fits next_of
see_page = refl

see_words : route_of get (codes "/docs/12/pages/3/words") ≡ Some routes.SeeWords
unfolding route_of fits next_of
see_words = refl

set_call : route_of post (codes "/docs/1/call") ≡ Some routes.SetCall
unfolding route_of fits next_of
set_call = refl

put_box : route_of post (codes "/docs/1/box") ≡ Some routes.PutBox
unfolding route_of fits next_of
put_box = refl

drop_box : route_of post (codes "/docs/1/unbox") ≡ Some routes.DropBox
unfolding route_of fits next_of
drop_box = refl

hold_field : route_of post (codes "/docs/1/hold") ≡ Some routes.HoldField
unfolding route_of fits next_of
hold_field = refl

free_field : route_of post (codes "/docs/1/free") ≡ Some routes.FreeField
unfolding route_of fits next_of
free_field = refl

put_entry : route_of post (codes "/docs/1/entry") ≡ Some routes.PutEntry
unfolding route_of fits next_of
put_entry = refl

confirm : route_of post (codes "/docs/1/confirm") ≡ Some routes.Confirm
unfolding route_of fits next_of
confirm = refl

send_back : route_of post (codes "/docs/1/back") ≡ Some routes.SendBack
unfolding route_of fits next_of
send_back = refl

freeze : route_of post (codes "/productions") ≡ Some routes.Freeze
unfolding route_of fits next_of
freeze = refl

get_production : route_of get (codes "/productions/R%2D1") ≡ Some routes.GetProduction
unfolding route_of fits next_of
get_production = refl

see_states : route_of get (codes "/states/11") ≡ Some routes.SeeStates
unfolding route_of fits next_of
see_states = refl

see_values : route_of get (codes "/docs/12/values") ≡ Some routes.SeeValues
unfolding route_of fits next_of
see_values = refl

-- the target of `add_staff`, by the other method
see_staff : route_of get (codes "/staff") ≡ Some routes.SeeStaff
unfolding route_of fits next_of
see_staff = refl

-- that of `freeze`
see_productions : route_of get (codes "/productions") ≡ Some routes.SeeProductions
unfolding route_of fits next_of
see_productions = refl

find_terms : route_of post (codes "/find") ≡ Some routes.Find
unfolding route_of fits next_of
find_terms = refl

plan : route_of post (codes "/plan") ≡ Some routes.Plan
unfolding route_of fits next_of
plan = refl

other_method : route_of post (codes "/docs/1") ≡ None
unfolding route_of fits next_of
other_method = refl

find_by_get : route_of get (codes "/find") ≡ None
unfolding route_of fits next_of
find_by_get = refl

states_by_post : route_of post (codes "/states/11") ≡ None
unfolding route_of fits next_of
states_by_post = refl

states_from_nowhere : route_of get (codes "/states") ≡ None
unfolding route_of fits next_of
states_from_nowhere = refl

longer_target : route_of get (codes "/docs/1/") ≡ None
unfolding route_of fits next_of
longer_target = refl

absolute_target : route_of get (codes "http://h/docs/1") ≡ None
unfolding route_of fits next_of
absolute_target = refl

empty_id : route_of get (codes "/productions/") ≡ None
unfolding route_of fits next_of
empty_id = refl

two_parts : route_of get (codes "/productions/A/B") ≡ None
unfolding route_of fits next_of
two_parts = refl

-- a target with a query is none, whatever route its front would be
query_of_doc : route_of get (codes "/docs/1?x") ≡ None
unfolding route_of fits next_of
query_of_doc = refl

query_of_production : route_of get (codes "/productions/R-1?x") ≡ None
unfolding route_of fits next_of
query_of_production = refl

-- a number in a path has 1 to 9 digits, the first not 0
path_zero : route_of get (codes "/docs/0") ≡ None
unfolding route_of fits next_of
path_zero = refl

path_leading_zero : route_of get (codes "/docs/01") ≡ None
unfolding route_of fits next_of
path_leading_zero = refl

path_sign : route_of get (codes "/docs/+1") ≡ None
unfolding route_of fits next_of
path_sign = refl

path_point : route_of get (codes "/docs/1.0") ≡ None
unfolding route_of fits next_of
path_point = refl

path_exponent : route_of get (codes "/docs/1e0") ≡ None
unfolding route_of fits next_of
path_exponent = refl

path_ten_digits : route_of get (codes "/docs/1234567890") ≡ None
unfolding route_of fits next_of
path_ten_digits = refl

-- ---- fields

one_key : value_of (codes "desk-key") ((codes "Host", codes "h") ∷ (codes "DESK-key", codes "abc") ∷ []) ≡ Some (codes "abc")
one_key = refl

two_keys : value_of (codes "desk-key") ((codes "Desk-Key", codes "a") ∷ (codes "desk-key", codes "a") ∷ []) ≡ None
two_keys = refl

-- a length has 1 to 9 digits, and may begin with 0
leading_zeros : body_length routes.Confirm ((codes "content-LENGTH", codes "000000002") ∷ []) ≡ Ok 2
leading_zeros = refl

ten_digits : body_length routes.Confirm ((codes "Content-Length", codes "0000000002") ∷ []) ≡ Err refusals.BodyRefused
ten_digits = refl

longest : body_length routes.Confirm ((codes "Content-Length", codes "1048576") ∷ []) ≡ Ok 1048576
longest = refl

too_long : body_length routes.Confirm ((codes "Content-Length", codes "1048577") ∷ []) ≡ Err refusals.BodyLimit
too_long = refl

two_lengths : body_length routes.Confirm ((codes "Content-Length", codes "2") ∷ (codes "Content-Length", codes "2") ∷ []) ≡ Err refusals.BodyRefused
two_lengths = refl

no_length : body_length routes.Confirm [] ≡ Err refusals.BodyRefused
no_length = refl

-- a GET has no body, whatever its fields say
get_has_none : body_length routes.SeeDoc ((codes "Content-Length", codes "x") ∷ (codes "Transfer-Encoding", codes "chunked") ∷ []) ≡ Ok 0
get_has_none = refl

-- ---- the order of the refusals

route_before_key : asking_at None [] ≡ Err refusals.NoRoute
route_before_key = refl

key_before_body : asking_at (Some routes.Confirm) ((codes "Transfer-Encoding", codes "chunked") ∷ []) ≡ Err refusals.KeyMissing
key_before_body = refl

body_before_limit : asking_at (Some routes.Confirm) ((codes "Desk-Key", codes "a") ∷ (codes "Content-Length", codes "1048577") ∷ (codes "Transfer-Encoding", codes "chunked") ∷ []) ≡ Err refusals.BodyRefused
body_before_limit = refl

limit_before_body : asking_at (Some routes.Confirm) ((codes "Desk-Key", codes "a") ∷ (codes "Content-Length", codes "1048577") ∷ []) ≡ Err refusals.BodyLimit
limit_before_body = refl

-- the input ends one byte early; and whole
cut_body : asked_of (record { route = routes.Confirm; key = []; length = 3 }) (codes "/docs/1/confirm") (codes "{}") ≡ Err refusals.BodyRefused
unfolding asked_of
cut_body = refl

-- bytes after the body are unread
rest_unread : asked_of (record { route = routes.Confirm; key = []; length = 2 }) (codes "/docs/1/confirm") (codes "{}GET") ≡ Ok (record { key = []; call = Confirm (doc_no 1) })
unfolding asked_of serde_json_on_literals is_utf8 chars
rest_unread = refl

-- ---- looks

states_asked : asked_of (record { route = routes.SeeStates; key = []; length = 0 }) (codes "/states/11") [] ≡ Ok (record { key = []; call = SeeStates (doc_no 11) })
unfolding asked_of
states_asked = refl

values_asked : asked_of (record { route = routes.SeeValues; key = []; length = 0 }) (codes "/docs/12/values") [] ≡ Ok (record { key = []; call = SeeValues (doc_no 12) })
unfolding asked_of
values_asked = refl

staff_asked : asked_of (record { route = routes.SeeStaff; key = []; length = 0 }) (codes "/staff") [] ≡ Ok (record { key = []; call = SeeStaff })
unfolding asked_of
staff_asked = refl

productions_asked : asked_of (record { route = routes.SeeProductions; key = []; length = 0 }) (codes "/productions") [] ≡ Ok (record { key = []; call = SeeProductions })
unfolding asked_of
productions_asked = refl

-- the terms in their order, from the values of document 1 on
terms_asked : asked_of (record { route = routes.Find; key = []; length = 45 }) (codes "/find") (codes "{\"terms\":[\"ask\",\"counsel\"],\"from\":1,\"page\":0}")
    ≡ Ok (record { key = []; call = Find (codes "ask" ∷ codes "counsel" ∷ []) (doc_no 1) 0 })
unfolding asked_of serde_json_on_literals is_utf8 chars
terms_asked = refl

-- what a search is of, by its text
search_in : List ℕ → Option Call
search_in body = option_and_then (call_of routes.Find (codes "/find")) (object_of body)

-- which terms and which document may be is said by the call
no_term : search_in (codes "{\"terms\":[],\"from\":0,\"page\":4294967295}") ≡ Some (Find [] (doc_no 0) 4294967295)
unfolding search_in serde_json_on_literals is_utf8 chars
no_term = refl

no_page : search_in (codes "{\"terms\":[\"ask\"],\"from\":1}") ≡ None
unfolding search_in serde_json_on_literals is_utf8 chars
no_page = refl

number_as_term : search_in (codes "{\"terms\":[\"ask\",555],\"from\":1,\"page\":0}") ≡ None
unfolding search_in serde_json_on_literals is_utf8 chars
number_as_term = refl

one_text_as_terms : search_in (codes "{\"terms\":\"ask\",\"from\":1,\"page\":0}") ≡ None
unfolding search_in serde_json_on_literals is_utf8 chars
one_text_as_terms = refl

-- the members of a freeze
plan_asked : option_and_then (call_of routes.Plan (codes "/plan")) (object_of (codes "{\"id\":\"R-1\",\"volume\":\"VOL001\",\"prefix\":\"ABC\",\"width\":8,\"from\":1,\"to\":12,\"fields\":[\"AUTHOR\"]}"))
    ≡ Some (Plan (record {
      id = codes "R-1";
      volume = codes "VOL001";
      prefix = record { text = codes "ABC"; width = 8 };
      from = doc_no 1;
      to = doc_no 12;
      fields = codes "AUTHOR" ∷ [];
    }))
unfolding serde_json_on_literals is_utf8 chars
plan_asked = refl

-- ---- a whole request

-- an empty line before it, a name in another case, blanks around the value, and lines that end in LF
head : RequestHead
head = record {
  blank = lf ∷ [];
  method = codes "GET";
  target = codes "/docs/7";
  minor = 1;
  line_end = crlf;
  fields = (record { name = codes "desk-key"; raw = codes "  abc "; end = crlf }) ∷ [];
  last = lf;
}

bytes : List ℕ
bytes = codes "\nGET /docs/7 HTTP/1.1\r\ndesk-key:  abc \r\n\nand more"

is_head : IsRequestHead head
unfolding head httparse_on_literals is_utf8 chars encode
is_head = record {
  method = (omega arith, AllPass-from_list_all is_token_byte (codes "GET") refl);
  target = (omega arith, AllPass-from_list_all is_uri_byte (codes "/docs/7") refl);
  target_text = IsUtf8-from_is_utf8 (codes "/docs/7") refl;
  minor = omega arith;
  fields = All-cons IsField _ [] (record {
    name = (omega arith, AllPass-from_list_all is_token_byte (codes "desk-key") refl);
    raw = AllPass-from_list_all is_value_byte (codes "  abc ") refl;
  }) (All-nil IsField);
}

begins : BeginsWith (start_of bytes) head
unfolding head bytes httparse_on_literals
begins = record { rest = codes "and more"; reads = (is_head, refl); few = omega arith }

whole_request : HttpReads bytes (Ok (record { key = sha256 (codes "abc"); call = SeeDoc (doc_no 7) }))
unfolding head bytes httparse_on_literals asking_of asked_of route_of fits next_of
whole_request = of_head head begins refl

-- ---- bodies

reads_a_body : option_and_then (call_of routes.SetCall (codes "/docs/1/call")) (object_of (codes "{\"designation\":\"\",\"responsive\":true,\"treatment\":\"Produce\"}"))
    ≡ Some (SetCall (doc_no 1) true Produce [])
unfolding serde_json_on_literals is_utf8 chars
reads_a_body = refl

no_object : object_of (codes "[]") ≡ None
unfolding serde_json_on_literals is_utf8 chars
no_object = refl

more_than_an_object : object_of (codes "{}{}") ≡ None
unfolding serde_json_on_literals is_utf8 chars
more_than_an_object = refl

not_utf8 : object_of (codes "{\"" ++ 0xFF ∷ codes "\":1}") ≡ None
unfolding is_utf8 chars
not_utf8 = refl

lone_surrogate : object_of (codes "{\"x\":\"\\ud800\"}") ≡ None
unfolding serde_json_on_literals is_utf8 chars
lone_surrogate = refl

-- the number of a body, by its text
num_in : List ℕ → Option ℕ
num_in body = option_and_then (number (codes "num")) (object_of body)

largest : num_in (codes "{\"num\":4294967295}") ≡ Some 4294967295
unfolding num_in serde_json_on_literals is_utf8 chars
largest = refl

past_the_largest : num_in (codes "{\"num\":4294967296}") ≡ None
unfolding num_in serde_json_on_literals is_utf8 chars
past_the_largest = refl

body_leading_zero : num_in (codes "{\"num\":01}") ≡ None
unfolding num_in serde_json_on_literals is_utf8 chars
body_leading_zero = refl

body_plus : num_in (codes "{\"num\":+1}") ≡ None
unfolding num_in serde_json_on_literals is_utf8 chars
body_plus = refl

body_minus : num_in (codes "{\"num\":-1}") ≡ None
unfolding num_in serde_json_on_literals is_utf8 chars
body_minus = refl

body_point : num_in (codes "{\"num\":1.0}") ≡ None
unfolding num_in serde_json_on_literals is_utf8 chars
body_point = refl

body_exponent : num_in (codes "{\"num\":1e0}") ≡ None
unfolding num_in serde_json_on_literals is_utf8 chars
body_exponent = refl

number_as_text : num_in (codes "{\"num\":\"1\"}") ≡ None
unfolding num_in serde_json_on_literals is_utf8 chars
number_as_text = refl

-- the last of several members with one name counts, whatever kind an earlier one has
last_counts : num_in (codes "{\"num\":\"x\",\"num\":1,\"num\":2}") ≡ Some 2
unfolding num_in serde_json_on_literals is_utf8 chars
last_counts = refl

earlier_counts_not : num_in (codes "{\"num\":1,\"num\":\"x\"}") ≡ None
unfolding num_in serde_json_on_literals is_utf8 chars
earlier_counts_not = refl

-- an unknown member of so many lists, the outermost of which stands in the object
nested : ℕ → List ℕ
nested lists = codes "{\"x\":" ++ replicate lists 91 ++ replicate lists 93 ++ codes ",\"num\":1}"

deepest : num_in (nested 126) ≡ Some 1
unfolding num_in nested serde_json_on_literals is_utf8 chars
deepest = refl

too_deep : num_in (nested 127) ≡ None
unfolding num_in nested serde_json_on_literals is_utf8 chars
too_deep = refl

widest : option_map (λ p. p.width) (option_and_then prefix_of (object_of (codes "{\"prefix\":\"A\",\"width\":255}"))) ≡ Some 255
unfolding serde_json_on_literals is_utf8 chars
widest = refl

too_wide : option_and_then prefix_of (object_of (codes "{\"prefix\":\"A\",\"width\":256}")) ≡ None
unfolding serde_json_on_literals is_utf8 chars
too_wide = refl

-- ---- words of a review

withheld : treatment_named (codes "Withhold-WP") ≡ Some (Withhold Wp)
withheld = refl

no_treatment : treatment_named (codes "withhold-WP") ≡ None
no_treatment = refl

no_basis : basis_named (codes "ac") ≡ None
no_basis = refl

receiver : role_named (codes "Receiver") ≡ Some Receiver
receiver = refl

-- 64 digits, none a capital
digest : digest_named (replicate 62 48 ++ codes "0f") ≡ Some (replicate 31 0 ++ 15 ∷ [])
unfolding decode_pairs
digest = refl

capital : digest_named (replicate 62 48 ++ codes "0F") ≡ None
capital = refl

short_digest : digest_named (replicate 62 48) ≡ None
short_digest = refl
