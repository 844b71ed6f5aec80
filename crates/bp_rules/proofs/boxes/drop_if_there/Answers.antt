use Rattle.std.proofs.Common.{◌<◌, ◌^◌, refl, arith}
use Rattle.bp_rules.specs.Calling.{edited, without_box}
use Rattle.bp_rules.specs.declared.changes.MarkEdit.TheVariants as mark_edits
use Rattle.bp_rules.proofs.CallLemmas.{edited-valid}
use Rattle.bp_rules.proofs.ReviewingLemmas.{box-dropped, box-gone-can, can-mark}
use Rattle.bp_rules.proofs.boxes.drop_if_there.Goals as goal

pub reviewed-requires : goal.reviewed-requires
reviewed-requires c =
    let m = c.args.tables.now.matter in
    let caller = c.args.caller in
    let doc = c.args.doc in
    let num = c.args.num in
    let v = c.know_valid.ensures in
    let small : num < 2 ^ 32 = omega (arith, c.ranges.num.fits) in
    can-mark m (edited caller doc.0 m) (without_box doc.0 num m) c.in_ok-call.call (mark_edits.DropBox doc num) c.in_ok-call.ensures.after refl c.in_ok-call.ensures.there (cc) c.in_ok-call.ensures.new (box-dropped m doc num (cc))
    (edited-valid m caller doc.0 v c.requires) (box-gone-can m caller doc.0 num v c.requires small)
