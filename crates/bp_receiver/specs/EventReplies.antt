-- The reply to each answer of the desk.
use Rattle.std.specs.Prelude.{ℕ, List, codes, Result, Ok, Err}
use Rattle.serde_json.specs.Data.{Data, object, no_members, member}
use Rattle.bp_core.specs.declared.rules.Rule.{Rule}
use Rattle.bp_web.specs.Messages.{Message, json_message, message_text}
use Rattle.bp_web.specs.Replies.{reply_message, reply_text}
use Rattle.bp_web.specs.Values.{done_data, list_of, num, text}
use Rattle.bp_web.specs.declared.replies.Answer.TheVariants as answers
use Rattle.bp_receiver.specs.declared.events.Given.{Given}
use Rattle.bp_receiver.specs.declared.events.Given.TheVariants as gives
use Rattle.bp_receiver.specs.declared.grants.GrantedRow.{GrantedRow}

-- a granted production: its id, its first and its last label number
abbrev pub granted_data : GrantedRow → Data
granted_data row =
    object
    (member (codes "first") (num row.span.first)
    (member (codes "id") (text row.id)
    (member (codes "last") (num row.span.last) no_members)))

-- those that are granted to who asks, in order
unfoldable pub list_data : List GrantedRow → Data
list_data rows = list_of granted_data rows

-- a file: its bytes, as they are
abbrev pub file_message : List ℕ → Message
file_message bytes =
    record { status = 200; kind = codes "application/octet-stream"; body = bytes }

-- what is sent for what was given
abbrev pub given_message : Given → Message
given_message (gives.Review reply) = reply_message reply
given_message gives.Granted = json_message 200 done_data
given_message (gives.Ids rows) = json_message 200 (list_data rows)
given_message (gives.File bytes) = file_message bytes

-- EventText: the bytes that are sent for an answer
abbrev pub event_text : Result Given Rule → List ℕ
event_text (Ok given) = message_text (given_message given)
event_text (Err rule) = reply_text (answers.Rule rule)
