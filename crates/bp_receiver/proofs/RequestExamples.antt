-- Worked examples of requests of the desk's own and of their replies, each run by the check.
use Rattle.std.proofs.Common.{◌≡◌, ℕ, List, [], ◌∷◌, ◌++◌, length, codes, Some, None, Ok, Err, refl}
use Rattle.std.specs.Fmt.{digits}
use Rattle.std.specs.Option.{option_and_then}
use Rattle.std.specs.Str.{chars, is_utf8}
use Rattle.std.proofs.Math.Utf8.{encode}
use Rattle.httparse.specs.Grammar.{RequestHead, crlf}
use Rattle.httparse.proofs.OnLiterals.{httparse_on_literals}
use Rattle.serde_json.specs.Data.{null}
use Rattle.serde_json.specs.Written.{compact_text}
use Rattle.serde_json.proofs.OnLiterals.{serde_json_on_literals}
use Rattle.sha2.specs.Sha256.{sha256}
use Rattle.bp_web.specs.Messages.{fields_text, json_message, line_text, message_text}
use Rattle.bp_web.specs.Routes.{fits, get, next_of, post}
use Rattle.bp_web.specs.Values.{done_data}
use Rattle.bp_web.specs.declared.refusals.WebRefusal.TheVariants as refusals
use Rattle.bp_receiver.specs.DeskRoutes.{desk_route_of}
use Rattle.bp_receiver.specs.EventBodies.{event_at, said_at}
use Rattle.bp_receiver.specs.EventReplies.{event_text, list_data}
use Rattle.bp_receiver.specs.EventRequests.{event_asked, event_asking_of, event_request_of}
use Rattle.bp_receiver.specs.declared.events.Event.TheVariants as events
use Rattle.bp_receiver.specs.declared.events.Given.TheVariants as gives
use Rattle.bp_receiver.specs.declared.events.Wanted.TheVariants as wants
use Rattle.bp_receiver.specs.declared.grants.GrantedRow.{GrantedRow}
use Rattle.bp_receiver.specs.declared.routes.DeskRoute.TheVariants as routes

-- ---- routes

a_grant : desk_route_of post (codes "/grants") ≡ Some routes.Grant
a_grant = refl

a_list : desk_route_of get (codes "/granted") ≡ Some routes.List
a_list = refl

a_file : desk_route_of get (codes "/granted/Q/V1/TEXT/0001/AB-0002.TXT") ≡ Some routes.File
unfolding fits next_of
a_file = refl

-- a file at the volume's top
a_manifest : desk_route_of get (codes "/granted/Q/V1/MANIFEST.TXT") ≡ Some routes.File
unfolding fits next_of
a_manifest = refl

no_path : desk_route_of get (codes "/granted/Q") ≡ None
unfolding fits next_of
no_path = refl

one_part : desk_route_of get (codes "/granted/Q/V1") ≡ None
unfolding fits next_of
one_part = refl

five_parts : desk_route_of get (codes "/granted/Q/V1/A/B/C/D") ≡ None
unfolding fits next_of
five_parts = refl

empty_part : desk_route_of get (codes "/granted/Q/V1/") ≡ None
unfolding fits next_of
empty_part = refl

a_query : desk_route_of get (codes "/granted/Q/V1/X?y") ≡ None
unfolding fits next_of
a_query = refl

other_method : desk_route_of post (codes "/granted") ≡ None
other_method = refl

a_call : desk_route_of get (codes "/docs/1") ≡ None
unfolding fits next_of
a_call = refl

-- ---- what is asked for

abbrev key : List ℕ
key = sha256 (codes "abc")

its_parts : event_at routes.File key (codes "/granted/Q/V1/TEXT/0001/AB-0002.TXT") null
    ≡ Some (events.Want key (wants.File (codes "Q") (codes "V1/TEXT/0001/AB-0002.TXT")))
unfolding is_utf8 chars encode
its_parts = refl

its_members : option_and_then (event_at routes.Grant key (codes "/grants"))
    (said_at routes.Grant (codes "{\"id\":\"Q\",\"staff\":3}"))
    ≡ Some (events.Grant key (record { 0 = 3 }) (codes "Q"))
unfolding serde_json_on_literals is_utf8 chars
its_members = refl

no_staff : option_and_then (event_at routes.Grant key (codes "/grants"))
    (said_at routes.Grant (codes "{\"id\":\"Q\"}"))
    ≡ None
unfolding serde_json_on_literals is_utf8 chars
no_staff = refl

abbrev head_of : List ℕ → List ℕ → RequestHead
head_of method target = record {
  blank = [];
  method = method;
  target = target;
  minor = 1;
  line_end = crlf;
  fields = (record { name = codes "Desk-Key"; raw = codes " abc"; end = crlf }) ∷ [];
  last = crlf;
}

whole_list : event_request_of (head_of get (codes "/granted")) []
    ≡ Ok (events.Want key wants.List)
unfolding event_asking_of event_asked httparse_on_literals
whole_list = refl

-- a grant has a body, and its length is to be said
no_length : event_request_of (head_of post (codes "/grants")) []
    ≡ Err refusals.BodyRefused
unfolding event_asking_of event_asked httparse_on_literals
no_length = refl

-- ---- replies

abbrev row : GrantedRow
row = record { id = codes "Q"; span = record { first = 1; last = 2 } }

list_value : compact_text (list_data (row ∷ [])) ≡ codes "[{\"first\":1,\"id\":\"Q\",\"last\":2}]"
unfolding list_data digits encode serde_json_on_literals
list_value = refl

list_length : length (codes "[{\"first\":1,\"id\":\"Q\",\"last\":2}]") ≡ 31
list_length = refl

empty_list : compact_text (list_data []) ≡ codes "[]"
unfolding list_data serde_json_on_literals
empty_list = refl

granted_text : event_text (Ok gives.Granted)
    ≡ codes "HTTP/1.1 200 OK\r\nContent-Type: application/json\r\nContent-Length: 13\r\n"
    ++ codes "Connection: close\r\n\r\n{\"done\":true}"
unfolding message_text line_text fields_text json_message done_data digits serde_json_on_literals
granted_text = refl

file_text : event_text (Ok (gives.File (codes "bytes")))
    ≡ codes "HTTP/1.1 200 OK\r\nContent-Type: application/octet-stream\r\nContent-Length: 5\r\n"
    ++ codes "Connection: close\r\n\r\nbytes"
unfolding message_text line_text fields_text digits
file_text = refl
