use Rattle.std.proofs.Common.{◌≤◌, ◌∙◌, arith, length}
use Rattle.bp_matter.proofs.CheckLemmas.{marked_is, mark_is, unmarked_past, mark_past, mark_meets, mark_passes}
use Rattle.bp_matter.proofs.checking.productions.mark_items.Goals as goal

pub returns-then-index-clause-marks : goal.returns-then-index-clause-marks
returns-then-index-clause-marks c =
    mark_meets _ c.loop-first.marks.items c.loop-first.rest.now c.in-Some.others.now c.in-Some.first.now c.loop-first.invariant.so_far c.in-Some.ensures.cases.0
    (marked_is c.loop-first.marks.items c.in-Some.first.now.doc.0 c.index.result.now (omega (arith, c.if-doc-len.true, c.len.ensures, c.loop-first.marks.ok)) c.index.ensures ∙ c.if-index.true)

pub loop-first-preserved-else-index : goal.loop-first-preserved-else-index
loop-first-preserved-else-index c = record {
  so_far = mark_passes _ c.loop-first.marks.items _ c.loop-first.rest.now c.in-Some.others.now c.in-Some.first.now c.loop-first.invariant.so_far c.in-Some.ensures.cases.0
      (marked_is c.loop-first.marks.items c.in-Some.first.now.doc.0 c.index.result.now (omega (arith, c.if-doc-len.true, c.len.ensures, c.loop-first.marks.ok)) c.index.ensures ∙ c.if-index.false)
      (mark_is c.loop-first.marks.items c.in-Some.first.now.doc.0);
  same = c.loop-first.invariant.same;
}

pub loop-first-preserved : goal.loop-first-preserved
loop-first-preserved c =
    let past : length c.loop-first.marks.items ≤ c.in-Some.first.now.doc.0 = omega (arith, c.if-doc-len.false, c.len.ensures, c.loop-first.marks.ok) in
    record {
      so_far = mark_passes _ c.loop-first.marks.items c.loop-first.marks.items c.loop-first.rest.now c.in-Some.others.now c.in-Some.first.now c.loop-first.invariant.so_far c.in-Some.ensures.cases.0
          (unmarked_past c.loop-first.marks.items c.in-Some.first.now.doc.0 past) (mark_past c.loop-first.marks.items c.in-Some.first.now.doc.0 past);
      same = c.loop-first.invariant.same;
    }
