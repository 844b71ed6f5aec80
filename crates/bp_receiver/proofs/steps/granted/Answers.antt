use Rattle.bp_receiver.proofs.DeliverLemmas.{grant-gives-as}
use Rattle.bp_receiver.proofs.steps.granted.Goals as goal

pub returns : goal.returns
returns c =
    grant-gives-as _ c.args.key.now (record { staff = c.args.staff; id = c.args.id.now })
    c.grant_by.result _ c.from_grant.result c.from_grant.ensures c.grant_by.ensures
