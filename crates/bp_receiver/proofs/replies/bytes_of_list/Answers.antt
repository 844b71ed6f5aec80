use Rattle.std.proofs.Common.{ap, ◌∙◌}
use Rattle.serde_json.specs.Written.{has_float}
use Rattle.bp_receiver.proofs.ReplyLemmas.{list-whole}
use Rattle.bp_receiver.proofs.replies.bytes_of_list.Goals as goal

pub json_bytes-requires-clause-whole : goal.json_bytes-requires-clause-whole
json_bytes-requires-clause-whole c = ap has_float c.in_ok-value.ensures ∙ list-whole _
