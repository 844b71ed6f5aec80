use Rattle.std.proofs.Common.{◌∙◌, arith}
use Rattle.bp_matter.proofs.MarkLemmas.{boxes_in}
use Rattle.bp_matter.proofs.marks.boxes_on.Goals as goal

pub returns : goal.returns
returns c =
    c.rows_between.ensures
    ∙ boxes_in c.args.doc.0 _ _ c.args.boxes.now (omega (arith, c.two_keys-first.ensures.value)) (omega (arith, c.two_keys-first.ensures.value)) c.requires.written
