use Rattle.std.proofs.Common.{refl, subst, IfOk, ◌≡◌, ◌∙◌}
use Rattle.bp_web.proofs.ReplyLemmas.{json_sent}
use Rattle.bp_web.proofs.messages.json_bytes.Goals as goal

pub returns : goal.returns
returns c = subst (λ m. IfOk c.message_bytes.result (λ bytes. bytes ≡ m)) (json_sent c.args.status _ c.deref.result.now _ refl (c.deref.ensures.value ∙ c.in_ok-body.ensures.text c.requires.whole)) c.message_bytes.ensures
