use Rattle.bp_receiver.proofs.DeliverLemmas.{review-gives-as}
use Rattle.bp_receiver.proofs.steps.review.Goals as goal

pub returns : goal.returns
returns g c =
    review-gives-as _ _ c.args.key.now c.args.call.now _ c.step_at.result _ c.from_reply.result
    c.from_reply.ensures c.step_at.ensures.grants c.step_at.ensures.made
