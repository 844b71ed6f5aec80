use Rattle.std.proofs.Common.{◌+◌, ◌∙◌, sym, ap, arith}
use Rattle.bp_freeze.specs.Families.{is_across, reaches_outside}
use Rattle.bp_freeze.specs.Seeing.{decisions_of}
use Rattle.bp_freeze.proofs.FamilyLemmas.{neighbours-tell}
use Rattle.bp_freeze.proofs.RangeLemmas.{finds-here, finds-later}
use Rattle.bp_freeze.proofs.families.first_split.Goals as goal

pub returns-then-is_across : goal.returns-then-is_across
returns-then-is_across c =
    let m = c.args.tables.now.matter in
    let q = c.args.request.now in
    finds-here m (λ s. reaches_outside q 1 (decisions_of m).parents s.parent) c.loop-number.number (q.to.0 + 1) _ (omega arith) c.loop-number.invariant
    (neighbours-tell m c.know_valid.ensures q c.loop-number.number c.requires.from (omega arith) (omega arith) c.requires.to
    ∙ ap (is_across q (decisions_of m).parents) (sym c.parent_of-parent.ensures.value) ∙ sym c.is_across.ensures ∙ c.if-is_across.true)

pub loop-number-preserved : goal.loop-number-preserved
loop-number-preserved c =
    let m = c.args.tables.now.matter in
    let q = c.args.request.now in
    finds-later m (λ s. reaches_outside q 1 (decisions_of m).parents s.parent) c.loop-number.number (q.to.0 + 1) _ (omega arith) c.loop-number.invariant
    (neighbours-tell m c.know_valid.ensures q c.loop-number.number c.requires.from (omega arith) (omega arith) c.requires.to
    ∙ ap (is_across q (decisions_of m).parents) (sym c.parent_of-parent.ensures.value) ∙ sym c.is_across.ensures ∙ c.if-is_across.false)
