use Rattle.bp_rules.specs.Calling.{edited, with_entry}
use Rattle.bp_rules.proofs.CallLemmas.{edited-valid}
use Rattle.bp_rules.proofs.ReviewingLemmas.{can-mark, doc-named, entry-can}
use Rattle.bp_rules.proofs.log_entries.put_row.Goals as goal

pub reviewed-requires : goal.reviewed-requires
reviewed-requires c =
    let m = c.args.tables.now.matter in
    let row = c.args.row in
    let caller = c.args.caller in
    let v = c.know_valid.ensures in
    can-mark m (edited caller row.doc.0 m) (with_entry row m) c.in_ok-call.call c.entry_put-mark.result c.in_ok-call.ensures.after c.entry_put-mark.ensures.after c.in_ok-call.ensures.there c.entry_put-mark.ensures.there c.in_ok-call.ensures.new c.entry_put-mark.ensures.new
    (edited-valid m caller row.doc.0 v c.requires.named) (entry-can m caller row v c.requires.named (doc-named m row.doc.0 v c.requires.there) (cc) c.know_texts.ensures)
