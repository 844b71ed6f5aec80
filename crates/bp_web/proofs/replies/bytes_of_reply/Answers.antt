use Rattle.std.proofs.Common.{ap, ◌∙◌, subst, IfOk, ◌≡◌}
use Rattle.serde_json.specs.Written.{has_float}
use Rattle.bp_web.proofs.ReplyLemmas.{doc_whole, done_whole, fields_whole, found_whole, image_sent, people_whole, production_whole, productions_whole, staff_whole, states_whole, words_whole}
use Rattle.bp_web.proofs.replies.bytes_of_reply.Goals as goal

pub json_bytes-requires-clause-whole : goal.json_bytes-requires-clause-whole
json_bytes-requires-clause-whole c = ap has_float c.in_ok-value-in-Staff.ensures ∙ staff_whole _

pub json_bytes-requires-in-Done-clause-whole : goal.json_bytes-requires-in-Done-clause-whole
json_bytes-requires-in-Done-clause-whole c = ap has_float c.in_ok-value-in-Done.ensures ∙ done_whole

pub json_bytes-requires-in-Doc-clause-whole : goal.json_bytes-requires-in-Doc-clause-whole
json_bytes-requires-in-Doc-clause-whole c = ap has_float c.in_ok-value-in-Doc.ensures ∙ doc_whole _

pub json_bytes-requires-in-Words-clause-whole : goal.json_bytes-requires-in-Words-clause-whole
json_bytes-requires-in-Words-clause-whole c = ap has_float c.in_ok-value-in-Words.ensures ∙ words_whole _

pub json_bytes-requires-in-Produced-clause-whole : goal.json_bytes-requires-in-Produced-clause-whole
json_bytes-requires-in-Produced-clause-whole c = ap has_float c.in_ok-value-in-Produced.ensures ∙ production_whole _

pub json_bytes-requires-in-States-clause-whole : goal.json_bytes-requires-in-States-clause-whole
json_bytes-requires-in-States-clause-whole c = ap has_float c.in_ok-value-in-States.ensures ∙ states_whole _

pub json_bytes-requires-in-Values-clause-whole : goal.json_bytes-requires-in-Values-clause-whole
json_bytes-requires-in-Values-clause-whole c = ap has_float c.in_ok-value-in-Values.ensures ∙ fields_whole _

pub json_bytes-requires-in-People-clause-whole : goal.json_bytes-requires-in-People-clause-whole
json_bytes-requires-in-People-clause-whole c = ap has_float c.in_ok-value-in-People.ensures ∙ people_whole _

pub json_bytes-requires-in-Productions-clause-whole : goal.json_bytes-requires-in-Productions-clause-whole
json_bytes-requires-in-Productions-clause-whole c = ap has_float c.in_ok-value-in-Productions.ensures ∙ productions_whole _

pub json_bytes-requires-in-Found-clause-whole : goal.json_bytes-requires-in-Found-clause-whole
json_bytes-requires-in-Found-clause-whole c = ap has_float c.in_ok-value-in-Found.ensures ∙ found_whole _

pub returns-in_ok-file-in-Image : goal.returns-in_ok-file-in-Image
returns-in_ok-file-in-Image c =
    subst (λ m. IfOk c.message_bytes.result (λ bytes. bytes ≡ m))
    (image_sent c.in-Image.page c.as_slice.result.now c.in_ok-file-in-Image.file c.args.reply.now c.as_slice.ensures c.in_ok-file-in-Image.ensures c.in-Image.is)
    c.message_bytes.ensures
