-- Worked examples of replies, each run by the check: their statuses, their values and whole texts.
use Rattle.std.proofs.Common.{◌≡◌, List, [], ◌∷◌, codes, Some, None, true, false, refl}
use Rattle.std.specs.Fmt.{digits}
use Rattle.std.proofs.Math.Utf8.{encode}
use Rattle.serde_json.specs.Written.{compact_text}
use Rattle.serde_json.proofs.OnLiterals.{serde_json_on_literals}
use Rattle.bp_core.specs.Rules.{bare_rule}
use Rattle.bp_core.specs.declared.rectangle.Rect.{Rect}
use Rattle.bp_core.specs.declared.review.Basis.TheVariants.{Ac, Pi}
use Rattle.bp_core.specs.declared.review.Role.{Role}
use Rattle.bp_core.specs.declared.review.Role.TheVariants as roles
use Rattle.bp_core.specs.declared.review.Treatment.TheVariants.{Produce, Redact, Withhold}
use Rattle.bp_core.specs.declared.rules.RuleKind.TheVariants.{BoxShape, KeyUnknown, NoDocument, NoFile, NoPage, NoProduction, RoleRefused, TermRefused}
use Rattle.bp_core.specs.declared.stamps.Ink.TheVariants.{Lettered}
use Rattle.bp_matter.specs.declared.calls.Reply.TheVariants as replies
use Rattle.bp_matter.specs.declared.looks.Found.{Found}
use Rattle.bp_matter.specs.declared.looks.PersonRow.{PersonRow}
use Rattle.bp_matter.specs.declared.looks.ProductionView.{ProductionView}
use Rattle.bp_matter.specs.declared.looks.StateRow.{StateRow}
use Rattle.bp_matter.specs.declared.looks.ValueRow.{ValueRow}
use Rattle.bp_matter.specs.declared.rows.State.TheVariants.{Confirmed, First, Uncalled}
use Rattle.bp_rows.specs.Image as pages
use Rattle.bp_tiff.specs.Tiff.{tiff_of}
use Rattle.bp_tiff.specs.declared.form.Form.TheVariants.{G4}
use Rattle.bp_web.specs.Members.{role_named}
use Rattle.bp_web.specs.Messages.{fields_text, json_message, line_text, message_text}
use Rattle.bp_web.specs.Replies.{message_of, reply_text, rule_status}
use Rattle.bp_web.specs.Values.{doc_data, done_data, fields_data, found_data, people_data, production_data, production_view_data, productions_data, refusal_data, role_text, state_data, states_data, words_data}
use Rattle.bp_web.specs.declared.refusals.WebRefusal.TheVariants as refusals
use Rattle.bp_web.specs.declared.replies.Answer.TheVariants as answers
use Rattle.bp_web.specs.declared.replies.TheConstants.{NO_MEMORY}

-- ---- statuses

unknown_key : rule_status KeyUnknown ≡ 401
unknown_key = refl

refused_role : rule_status RoleRefused ≡ 403
refused_role = refl

no_document : rule_status NoDocument ≡ 404
no_document = refl

no_page : rule_status NoPage ≡ 404
no_page = refl

no_production : rule_status NoProduction ≡ 404
no_production = refl

no_file : rule_status NoFile ≡ 404
no_file = refl

refused_term : rule_status TermRefused ≡ 409
refused_term = refl

other_rule : rule_status BoxShape ≡ 409
other_rule = refl

-- ---- values

rect : Rect
rect = record { left = 1; top = 2; width = 3; height = 4 }

words_value : compact_text (words_data ((record { line = 5; rect = rect; text = codes "a\"b" }) ∷ []))
    ≡ codes "[{\"height\":4,\"left\":1,\"line\":5,\"text\":\"a\\\"b\",\"top\":2,\"width\":3}]"
unfolding words_data rect digits encode serde_json_on_literals
words_value = refl

doc_value : compact_text (doc_data (record {
  doc = record { 0 = 7 };
  parent = record { 0 = 6 };
  pages = 2;
  state = Confirmed (record { 0 = 1 }) (record { 0 = 3 });
  responsive = true;
  treatment = Redact;
  designation = codes "C";
  boxes = (record { num = 9; page = record { 0 = 1 }; rect = rect; basis = Pi }) ∷ [];
  held = (record { field = 8; basis = Ac }) ∷ [];
  entry = None;
}))
    ≡ codes "{\"boxes\":[{\"basis\":\"PI\",\"height\":4,\"left\":1,\"num\":9,\"page\":1,\"top\":2,\"width\":3}],\"confirmer\":3,\"designation\":\"C\",\"doc\":7,\"editor\":1,\"entry\":null,\"held\":[{\"basis\":\"AC\",\"field\":8}],\"pages\":2,\"parent\":6,\"responsive\":true,\"treatment\":\"Redact\"}"
unfolding doc_data rect digits encode serde_json_on_literals
doc_value = refl

entry_value : compact_text (doc_data (record {
  doc = record { 0 = 7 };
  parent = record { 0 = 7 };
  pages = 1;
  state = First (record { 0 = 1 });
  responsive = false;
  treatment = Withhold Ac;
  designation = [];
  boxes = [];
  held = [];
  entry = Some (record { date = codes "d"; author = codes "a"; recipients = codes "r"; description = codes "e" });
}))
    ≡ codes "{\"boxes\":[],\"confirmer\":0,\"designation\":\"\",\"doc\":7,\"editor\":1,\"entry\":{\"author\":\"a\",\"date\":\"d\",\"description\":\"e\",\"recipients\":\"r\"},\"held\":[],\"pages\":1,\"parent\":7,\"responsive\":false,\"treatment\":\"Withhold-AC\"}"
unfolding doc_data digits encode serde_json_on_literals
entry_value = refl

-- of its ink nothing is told
production_value : compact_text (production_data (record {
  ink = Lettered;
  request = record {
    id = codes "R";
    volume = codes "V";
    prefix = record { text = codes "AB-"; width = 4 };
    from = record { 0 = 1 };
    to = record { 0 = 2 };
    fields = [];
  };
  items = (record {
    doc = record { 0 = 1 };
    parent = record { 0 = 1 };
    treatment = Redact;
    boxes = [];
    held = [];
    entry = None;
    designation = [];
    span = record { first = 12; last = 13 };
  }) ∷ [];
  span = record { first = 12; last = 13 };
}))
    ≡ codes "{\"first\":12,\"id\":\"R\",\"items\":[{\"doc\":1,\"first\":12,\"last\":13,\"treatment\":\"Redact\"}],\"last\":13,\"prefix\":\"AB-\",\"volume\":\"V\",\"width\":4}"
unfolding production_data digits encode serde_json_on_literals
production_value = refl

-- a role is told as a body says it
role_read_back : (role : Role) → role_named (role_text role) ≡ Some role
role_read_back roles.Reviewer = refl
role_read_back roles.Second = refl
role_read_back roles.Lead = refl
role_read_back roles.Clerk = refl
role_read_back roles.Receiver = refl

-- ---- whole replies

done_text : reply_text (answers.Reply replies.Done)
    ≡ codes "HTTP/1.1 200 OK\r\nContent-Type: application/json\r\nContent-Length: 13\r\nConnection: close\r\n\r\n{\"done\":true}"
unfolding message_text line_text fields_text json_message done_data digits serde_json_on_literals
done_text = refl

-- an uncalled document, and one that was confirmed and stands in a production
states : List StateRow
states =
    (record {
      doc = record { 0 = 11 };
      parent = record { 0 = 9 };
      pages = 1;
      state = Uncalled;
      responsive = false;
      treatment = Produce;
      designation = [];
      boxes = 0;
      held = 0;
      entry = false;
      production = None;
    })
    ∷ (record {
      doc = record { 0 = 12 };
      parent = record { 0 = 9 };
      pages = 3;
      state = Confirmed (record { 0 = 1 }) (record { 0 = 3 });
      responsive = true;
      treatment = Redact;
      designation = codes "C";
      boxes = 2;
      held = 4;
      entry = true;
      production = Some (codes "R-1");
    })
    ∷ []

states_text : reply_text (answers.Reply (replies.States states))
    ≡ codes "HTTP/1.1 200 OK\r\nContent-Type: application/json\r\nContent-Length: 332\r\nConnection: close\r\n\r\n[{\"boxes\":0,\"confirmer\":0,\"designation\":\"\",\"doc\":11,\"editor\":0,\"entry\":false,\"held\":0,\"pages\":1,\"parent\":9,\"production\":null,\"responsive\":false,\"treatment\":\"Produce\"},{\"boxes\":2,\"confirmer\":3,\"designation\":\"C\",\"doc\":12,\"editor\":1,\"entry\":true,\"held\":4,\"pages\":3,\"parent\":9,\"production\":\"R-1\",\"responsive\":true,\"treatment\":\"Redact\"}]"
unfolding states message_text line_text fields_text json_message states_data state_data digits encode serde_json_on_literals
states_text = refl

-- a field that is told, and one without a value that is held back
values : List ValueRow
values =
    (record { field = 1; name = codes "AUTHOR"; value = codes "Ng"; held = None })
    ∷ (record { field = 2; name = codes "DATE"; value = []; held = Some Pi })
    ∷ []

values_text : reply_text (answers.Reply (replies.Values values))
    ≡ codes "HTTP/1.1 200 OK\r\nContent-Type: application/json\r\nContent-Length: 103\r\nConnection: close\r\n\r\n[{\"field\":1,\"held\":null,\"name\":\"AUTHOR\",\"value\":\"Ng\"},{\"field\":2,\"held\":\"PI\",\"name\":\"DATE\",\"value\":\"\"}]"
unfolding values message_text line_text fields_text json_message fields_data digits encode serde_json_on_literals
values_text = refl

people : List PersonRow
people = (record { staff = record { 0 = 2 }; name = codes "Ito M."; role = roles.Second }) ∷ []

people_text : reply_text (answers.Reply (replies.People people))
    ≡ codes "HTTP/1.1 200 OK\r\nContent-Type: application/json\r\nContent-Length: 45\r\nConnection: close\r\n\r\n[{\"name\":\"Ito M.\",\"role\":\"Second\",\"staff\":2}]"
unfolding people message_text line_text fields_text json_message people_data digits encode serde_json_on_literals
people_text = refl

productions : List ProductionView
productions =
    (record {
      id = codes "R-1";
      volume = codes "VOL001";
      prefix = codes "AB-";
      width = 4;
      span = record { first = 12; last = 34 };
      items = 10;
      from = record { 0 = 1 };
      to = record { 0 = 11 };
    })
    ∷ []

productions_text : reply_text (answers.Reply (replies.Productions productions))
    ≡ codes "HTTP/1.1 200 OK\r\nContent-Type: application/json\r\nContent-Length: 106\r\nConnection: close\r\n\r\n[{\"first\":12,\"from\":1,\"id\":\"R-1\",\"items\":10,\"last\":34,\"prefix\":\"AB-\",\"to\":11,\"volume\":\"VOL001\",\"width\":4}]"
unfolding productions message_text line_text fields_text json_message productions_data production_view_data digits encode serde_json_on_literals
productions_text = refl

-- two terms on a page, and in a field; and where the search goes on
found : Found
found = record {
  hits = (record { doc = record { 0 = 7 }; page = 1; field = 0; place = 3; count = 2 })
      ∷ (record { doc = record { 0 = 8 }; page = 0; field = 4; place = 5; count = 2 })
      ∷ [];
  next = 501;
  next_page = 6;
}

found_text : reply_text (answers.Reply (replies.Found found))
    ≡ codes "HTTP/1.1 200 OK\r\nContent-Type: application/json\r\nContent-Length: 133\r\nConnection: close\r\n\r\n{\"hits\":[{\"count\":2,\"doc\":7,\"field\":0,\"page\":1,\"place\":3},{\"count\":2,\"doc\":8,\"field\":4,\"page\":0,\"place\":5}],\"next\":501,\"next_page\":6}"
unfolding found message_text line_text fields_text json_message found_data digits encode serde_json_on_literals
found_text = refl

-- what a search answers to no term
term_text : reply_text (answers.Rule (bare_rule TermRefused))
    ≡ codes "HTTP/1.1 409 Conflict\r\nContent-Type: application/json\r\nContent-Length: 54\r\nConnection: close\r\n\r\n{\"a\":0,\"b\":0,\"line\":0,\"name\":\"TermRefused\",\"rule\":140}"
unfolding message_text line_text fields_text json_message refusal_data digits serde_json_on_literals
term_text = refl

unknown_text : reply_text (answers.Rule (bare_rule KeyUnknown))
    ≡ codes "HTTP/1.1 401 Unauthorized\r\nContent-Type: application/json\r\nContent-Length: 51\r\nConnection: close\r\n\r\n{\"a\":0,\"b\":0,\"line\":0,\"name\":\"KeyUnknown\",\"rule\":9}"
unfolding message_text line_text fields_text json_message refusal_data digits serde_json_on_literals
unknown_text = refl

full_text : reply_text (answers.JournalFull 2)
    ≡ codes "HTTP/1.1 429 Too Many Requests\r\nContent-Type: application/json\r\nContent-Length: 54\r\nConnection: close\r\n\r\n{\"a\":2,\"b\":0,\"line\":0,\"name\":\"JournalFull\",\"rule\":106}"
unfolding message_text line_text fields_text json_message refusal_data digits serde_json_on_literals
full_text = refl

fault_text : reply_text answers.KeeperFault
    ≡ codes "HTTP/1.1 503 Service Unavailable\r\nContent-Type: application/json\r\nContent-Length: 54\r\nConnection: close\r\n\r\n{\"a\":0,\"b\":0,\"line\":0,\"name\":\"KeeperFault\",\"rule\":107}"
unfolding message_text line_text fields_text json_message refusal_data digits serde_json_on_literals
fault_text = refl

head_text : reply_text (answers.Web refusals.HeadRefused)
    ≡ codes "HTTP/1.1 400 Bad Request\r\nContent-Type: application/json\r\nContent-Length: 54\r\nConnection: close\r\n\r\n{\"a\":0,\"b\":0,\"line\":0,\"name\":\"HeadRefused\",\"rule\":101}"
unfolding message_text line_text fields_text json_message refusal_data digits serde_json_on_literals
head_text = refl

body_text : reply_text (answers.Web refusals.BodyRefused)
    ≡ codes "HTTP/1.1 400 Bad Request\r\nContent-Type: application/json\r\nContent-Length: 54\r\nConnection: close\r\n\r\n{\"a\":0,\"b\":0,\"line\":0,\"name\":\"BodyRefused\",\"rule\":102}"
unfolding message_text line_text fields_text json_message refusal_data digits serde_json_on_literals
body_text = refl

limit_text : reply_text (answers.Web refusals.BodyLimit)
    ≡ codes "HTTP/1.1 413 Payload Too Large\r\nContent-Type: application/json\r\nContent-Length: 52\r\nConnection: close\r\n\r\n{\"a\":0,\"b\":0,\"line\":0,\"name\":\"BodyLimit\",\"rule\":103}"
unfolding message_text line_text fields_text json_message refusal_data digits serde_json_on_literals
limit_text = refl

key_text : reply_text (answers.Web refusals.KeyMissing)
    ≡ codes "HTTP/1.1 401 Unauthorized\r\nContent-Type: application/json\r\nContent-Length: 53\r\nConnection: close\r\n\r\n{\"a\":0,\"b\":0,\"line\":0,\"name\":\"KeyMissing\",\"rule\":104}"
unfolding message_text line_text fields_text json_message refusal_data digits serde_json_on_literals
key_text = refl

route_text : reply_text (answers.Web refusals.NoRoute)
    ≡ codes "HTTP/1.1 404 Not Found\r\nContent-Type: application/json\r\nContent-Length: 50\r\nConnection: close\r\n\r\n{\"a\":0,\"b\":0,\"line\":0,\"name\":\"NoRoute\",\"rule\":105}"
unfolding message_text line_text fields_text json_message refusal_data digits serde_json_on_literals
route_text = refl

-- a page is its Group 4 file
page_body : (page : pages.Image) → (message_of (answers.Reply (replies.Image page))).body ≡ tiff_of G4 page
page_body page = refl

page_kind : (page : pages.Image) → (message_of (answers.Reply (replies.Image page))).kind ≡ codes "image/tiff"
page_kind page = refl

-- what is sent for want of memory is its text
pub no_memory : NO_MEMORY.now ≡ reply_text answers.OutOfMemory
unfolding message_text line_text fields_text json_message refusal_data digits serde_json_on_literals
no_memory = refl
