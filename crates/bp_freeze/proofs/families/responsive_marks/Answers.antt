use Rattle.std.proofs.Common.{◌∙◌, ◌==◌, ◌||◌, ◌&&◌, ap, ap₂, arith}
use Rattle.bp_freeze.specs.Marks.{is_marked}
use Rattle.bp_freeze.specs.Selecting.{is_responsive}
use Rattle.bp_freeze.proofs.RangeLemmas.{marks-next}
use Rattle.bp_freeze.proofs.families.responsive_marks.Goals as goal

pub loop-number-preserved : goal.loop-number-preserved
loop-number-preserved c =
    let before = c.loop-number.invariant in
    record {
      many = c.mark_if.ensures.many ∙ before.many;
      tell = λ n within. marks-next c.args.tables.now.matter c.loop-number.number c.args.end n _ _ _ (omega arith) (before.tell n within)
          (c.mark_if.ensures.tell n (omega (arith, before.many))
          ∙ ap₂ (λ parent responsive. is_marked c.loop-number.marks.items n || ((parent == n) && responsive)) c.parent_of.ensures.value (c.is_responsive-responsive.ensures ∙ ap is_responsive c.call_with.ensures));
    }
