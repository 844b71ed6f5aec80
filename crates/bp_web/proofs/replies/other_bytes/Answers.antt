use Rattle.std.proofs.Common.{ap, ◌∙◌}
use Rattle.serde_json.specs.Written.{has_float}
use Rattle.bp_web.proofs.ReplyLemmas.{refusal_whole}
use Rattle.bp_web.proofs.replies.other_bytes.Goals as goal

pub json_bytes-requires-clause-whole : goal.json_bytes-requires-clause-whole
json_bytes-requires-clause-whole c = ap has_float c.in_ok-value.ensures ∙ refusal_whole _ _ _ _ _
