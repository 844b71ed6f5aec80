use Rattle.bp_rules.specs.Calling.{with_call}
use Rattle.bp_rules.proofs.ReviewingLemmas.{can-call, doc-named, set-can}
use Rattle.bp_rules.proofs.document_calls.set_row.Goals as goal

pub reviewed-requires : goal.reviewed-requires
reviewed-requires c =
    let m = c.args.tables.now.matter in
    let row = c.args.row in
    let v = c.know_valid.ensures in
    can-call m (with_call row m) c.call_put-edit.result c.call_put-edit.ensures.after c.call_put-edit.ensures.there c.call_put-edit.ensures.new
    (set-can m c.args.caller row v c.requires.named (doc-named m row.doc.0 v c.requires.there) c.requires.state c.as_str-text.ensures.scalars (cc) (cc) (cc))
