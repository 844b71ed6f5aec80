use Rattle.std.proofs.Common.{refl}
use Rattle.bp_rules.proofs.EditLemmas.{call-edit-written, mark-edit-written, review-made}
use Rattle.bp_rules.proofs.ReviewingLemmas.{review-decided}
use Rattle.bp_rules.proofs.decided.reviewed.Goals as goal

pub new-requires : goal.new-requires
new-requires c =
    let m = c.args.tables.now.matter in
    (call-edit-written m c.args.call c.requires.first, mark-edit-written m c.args.call c.args.mark c.requires.whole)

pub returns : goal.returns
returns c =
    let m = c.args.tables.now.matter in
    review-decided m c.args.call c.args.mark c.in_ok-change.change _ c.in_ok-change.ensures refl (review-made m c.args.call c.args.mark c.order_law.ensures c.know_valid.ensures c.requires) c.requires
