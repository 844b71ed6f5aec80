use Rattle.bp_rules.specs.Calling.{without_call}
use Rattle.bp_rules.proofs.CallLemmas.{uncalled-valid}
use Rattle.bp_rules.proofs.ReviewingLemmas.{can-call}
use Rattle.bp_rules.proofs.second_review.send_back.Goals as goal

pub reviewed-requires : goal.reviewed-requires
reviewed-requires c =
    let m = c.args.tables.now.matter in
    can-call m (without_call c.args.doc.0 m) c.uncalled-edit.result c.uncalled-edit.ensures.after c.uncalled-edit.ensures.there c.uncalled-edit.ensures.new (uncalled-valid m c.args.doc.0 c.know_valid.ensures)
