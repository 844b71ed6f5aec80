use Rattle.std.proofs.Common.{◌<◌, ◌^◌, refl, arith}
use Rattle.bp_rules.specs.Calling.{edited, without_held}
use Rattle.bp_rules.specs.declared.changes.MarkEdit.TheVariants as mark_edits
use Rattle.bp_rules.proofs.CallLemmas.{edited-valid}
use Rattle.bp_rules.proofs.ReviewingLemmas.{can-mark, held-dropped, held-gone-can}
use Rattle.bp_rules.proofs.held_fields.free_if_held.Goals as goal

pub reviewed-requires : goal.reviewed-requires
reviewed-requires c =
    let m = c.args.tables.now.matter in
    let caller = c.args.caller in
    let doc = c.args.doc in
    let field = c.args.field in
    let v = c.know_valid.ensures in
    let small : field < 2 ^ 32 = omega (arith, c.ranges.field.fits) in
    can-mark m (edited caller doc.0 m) (without_held doc.0 field m) c.in_ok-call.call (mark_edits.DropHeld doc field) c.in_ok-call.ensures.after refl c.in_ok-call.ensures.there (cc) c.in_ok-call.ensures.new (held-dropped m doc field (cc))
    (edited-valid m caller doc.0 v c.requires) (held-gone-can m caller doc.0 field v c.requires small)
