use Rattle.bp_rules.specs.Calling.{edited, with_box}
use Rattle.bp_rules.proofs.CallLemmas.{edited-valid}
use Rattle.bp_rules.proofs.ReviewingLemmas.{box-can, can-mark}
use Rattle.bp_rules.proofs.boxes.put_on_page.Goals as goal

pub reviewed-requires : goal.reviewed-requires
reviewed-requires c =
    let m = c.args.tables.now.matter in
    let row = c.args.row in
    let caller = c.args.caller in
    let v = c.know_valid.ensures in
    can-mark m (edited caller row.doc.0 m) (with_box row m) c.in_ok-call.call c.box_put-mark.result c.in_ok-call.ensures.after c.box_put-mark.ensures.after c.in_ok-call.ensures.there c.box_put-mark.ensures.there c.in_ok-call.ensures.new c.box_put-mark.ensures.new
    (edited-valid m caller row.doc.0 v c.requires.named) (box-can m caller row c.args.page.now v c.requires.named c.requires.found (cc) (cc) (cc) c.know_box.ensures)
