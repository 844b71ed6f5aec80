use Rattle.std.proofs.Common.{◌∙◌}
use Rattle.std.proofs.lemmas.Result.{IfOk-weaker}
use Rattle.bp_web.proofs.ReplyLemmas.{line_is}
use Rattle.bp_web.proofs.messages.status_line.Goals as goal

pub returns : goal.returns
returns c = IfOk-weaker c.format.result _ _ (λ s h. h ∙ line_is c.args.status c.phrase_of-phrase.result.now c.args.kind.now c.phrase_of-phrase.ensures) c.format.ensures.ok
