use Rattle.std.proofs.Common.{◌∙◌}
use Rattle.std.proofs.lemmas.Result.{IfOk-weaker}
use Rattle.bp_web.proofs.ReplyLemmas.{fields_are}
use Rattle.bp_web.proofs.messages.last_fields.Goals as goal

pub returns : goal.returns
returns c = IfOk-weaker c.format.result _ _ (λ s h. h ∙ fields_are c.args.len) c.format.ensures.ok
