use Rattle.std.proofs.Common.{ap, ◌∙◌, length}
use Rattle.bp_matter.specs.ValidRows.{names}
use Rattle.bp_rules.specs.Calling.{edited, with_held}
use Rattle.bp_rules.proofs.CallLemmas.{edited-valid}
use Rattle.bp_rules.proofs.ReviewingLemmas.{can-mark, doc-named, field-named, held-can}
use Rattle.bp_rules.proofs.held_fields.hold.Goals as goal

pub reviewed-requires : goal.reviewed-requires
reviewed-requires c =
    let m = c.args.tables.now.matter in
    let row = c.args.row in
    let caller = c.args.caller in
    let v = c.know_valid.ensures in
    let field = ap (names (length m.fields)) c.requires.same ∙ field-named m c.args.name.now c.args.field.now v c.requires.found in
    can-mark m (edited caller row.doc.0 m) (with_held row m) c.in_ok-call.call c.held_put-mark.result c.in_ok-call.ensures.after c.held_put-mark.ensures.after c.in_ok-call.ensures.there c.held_put-mark.ensures.there c.in_ok-call.ensures.new c.held_put-mark.ensures.new
    (edited-valid m caller row.doc.0 v c.requires.named) (held-can m caller row v c.requires.named (doc-named m row.doc.0 v c.requires.there) field (cc) c.know_held.ensures)
