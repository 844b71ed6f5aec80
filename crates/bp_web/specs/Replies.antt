-- The reply to each answer.
use Rattle.std.specs.Prelude.{ℕ, List, codes}
use Rattle.serde_json.specs.Data.{Data}
use Rattle.bp_core.specs.Rules.{rule_name, rule_number}
use Rattle.bp_core.specs.declared.rules.Rule.{Rule}
use Rattle.bp_core.specs.declared.rules.RuleKind.{RuleKind}
use Rattle.bp_core.specs.declared.rules.RuleKind.TheVariants as kinds
use Rattle.bp_matter.specs.declared.calls.Reply.{Reply}
use Rattle.bp_matter.specs.declared.calls.Reply.TheVariants as replies
use Rattle.bp_tiff.specs.Tiff.{tiff_of}
use Rattle.bp_tiff.specs.declared.form.Form.TheVariants.{G4}
use Rattle.bp_web.specs.Messages.{Message, json_message, message_text}
use Rattle.bp_web.specs.Values.{doc_data, done_data, fields_data, found_data, people_data, production_data, productions_data, refusal_data, staff_data, states_data, words_data}
use Rattle.bp_web.specs.declared.refusals.WebRefusal.{WebRefusal}
use Rattle.bp_web.specs.declared.refusals.WebRefusal.TheVariants as refusals
use Rattle.bp_web.specs.declared.replies.Answer.{Answer}
use Rattle.bp_web.specs.declared.replies.Answer.TheVariants as answers

-- a reply to a call: a page as a Group 4 file (ITU-T T.6), everything else as JSON
abbrev pub reply_message : Reply → Message
reply_message (replies.Staff staff) = json_message 200 (staff_data staff)
reply_message (replies.Doc view) = json_message 200 (doc_data view)
reply_message (replies.Image page) =
    record { status = 200; kind = codes "image/tiff"; body = tiff_of G4 page }
reply_message (replies.Words words) = json_message 200 (words_data words)
reply_message replies.Done = json_message 200 done_data
reply_message (replies.Produced production) = json_message 200 (production_data production)
reply_message (replies.States rows) = json_message 200 (states_data rows)
reply_message (replies.Values rows) = json_message 200 (fields_data rows)
reply_message (replies.People rows) = json_message 200 (people_data rows)
reply_message (replies.Productions rows) = json_message 200 (productions_data rows)
reply_message (replies.Found found) = json_message 200 (found_data found)

-- ---- a broken rule

-- its status (RFC 9110, section 15.5): who may not, what isn't there, and what can't be now
abbrev pub rule_status : RuleKind → ℕ
rule_status kinds.KeyUnknown = 401
rule_status kinds.RoleRefused = 403
rule_status kinds.NoDocument = 404
rule_status kinds.NoPage = 404
rule_status kinds.NoProduction = 404
rule_status kinds.NoFile = 404
rule_status _ = 409

-- its number and name, the line and the two values
abbrev pub rule_data : Rule → Data
rule_data rule = refusal_data (rule_number rule.kind) (rule_name rule.kind) rule.line rule.a rule.b

-- ---- a refusal that is no rule of a call

-- with its status, its number and name, and one value
abbrev pub other_message : ℕ → ℕ → List ℕ → ℕ → Message
other_message status number name a = json_message status (refusal_data number name 0 a 0)

-- the refusals of a request that wasn't read
abbrev pub web_message : WebRefusal → Message
web_message refusals.HeadRefused = other_message 400 101 (codes "HeadRefused") 0
web_message refusals.BodyRefused = other_message 400 102 (codes "BodyRefused") 0
web_message refusals.BodyLimit = other_message 413 103 (codes "BodyLimit") 0
web_message refusals.KeyMissing = other_message 401 104 (codes "KeyMissing") 0
web_message refusals.NoRoute = other_message 404 105 (codes "NoRoute") 0
web_message refusals.OutOfMemory = other_message 507 108 (codes "OutOfMemory") 0

-- ---- an answer

-- what is sent for it
abbrev pub message_of : Answer → Message
message_of (answers.Reply reply) = reply_message reply
message_of (answers.Rule rule) = json_message (rule_status rule.kind) (rule_data rule)
message_of (answers.Web refusal) = web_message refusal
message_of (answers.JournalFull count) = other_message 429 106 (codes "JournalFull") count
message_of answers.KeeperFault = other_message 503 107 (codes "KeeperFault") 0
message_of answers.OutOfMemory = web_message refusals.OutOfMemory

-- the bytes of an answer
abbrev pub reply_text : Answer → List ℕ
reply_text answer = message_text (message_of answer)
