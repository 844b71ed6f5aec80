use Rattle.std.proofs.Common.{◌∙◌, arith}
use Rattle.bp_matter.proofs.MarkLemmas.{held_in}
use Rattle.bp_matter.proofs.marks.held_on.Goals as goal

pub returns : goal.returns
returns c =
    c.rows_between.ensures
    ∙ held_in c.args.doc.0 _ _ c.args.held.now (omega (arith, c.two_keys-first.ensures.value)) (omega (arith, c.two_keys-first.ensures.value)) c.requires.written
