use Rattle.bp_rules.proofs.ReviewingLemmas.{confirm-made}
use Rattle.bp_rules.proofs.second_review.confirm_row.Goals as goal

pub reviewed-requires : goal.reviewed-requires
reviewed-requires c =
    confirm-made c.args.tables.now.matter c.args.caller c.args.doc.0 c.editor_of.result c.args.row.now c.in_ok-row.row c.call_put-edit.result c.boxes_on.result.now c.held_on.result.now c.is_entered.result c.confirm_rule-rule.result c.confirmed_state.result
    c.know_valid.ensures c.requires.named c.requires.checker c.requires.found c.editor_of.ensures c.boxes_on.ensures c.held_on.ensures c.is_entered.ensures c.confirm_rule-rule.ensures c.in_default.not-Some c.confirmed_state.ensures c.in_ok-row.ensures c.call_put-edit.ensures.after c.call_put-edit.ensures.there c.call_put-edit.ensures.new
