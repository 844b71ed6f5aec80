use Rattle.bp_receiver.proofs.DeliverLemmas.{want-gives-as}
use Rattle.bp_receiver.proofs.steps.given_wanted.Goals as goal

pub returns : goal.returns
returns c =
    want-gives-as _ _ c.args.key.now c.args.wanted.now c.receive_at.result c.from_want.result
    c.from_want.ensures c.receive_at.ensures.desk c.receive_at.ensures.given
