use Rattle.std.proofs.Common.{◌∙◌, sym, ap, cond, Some, None, Bool}
use Rattle.bp_matter.specs.ValidProductions.{all_marked_on, marked_on}
use Rattle.bp_matter.proofs.CheckLemmas.{blank_new, stands_not}
use Rattle.bp_matter.proofs.checking.productions.stand_once.Goals as goal

pub loop-first-init : goal.loop-first-init
loop-first-init c = record {
  so_far = ap (λ ms. all_marked_on (Some ms) c.args.productions.now) (blank_new c.args.docs c.in_ok-marks.marks.items (c.in_ok-marks.ensures.items_if_clones_equal (λ y h. h)));
  same = c.in_ok-marks.ensures.len;
}

pub returns-then-not-mark_items : goal.returns-then-not-mark_items
returns-then-not-mark_items c =
    stands_not c.args.docs c.args.productions.now c.loop-first.marks.items c.loop-first.rest.now c.in-Some.others.now c.in-Some.first.now c.loop-first.invariant.so_far c.in-Some.ensures.cases.0
    (ap (marked_on (Some c.loop-first.marks.items)) (sym c.as_slice.ensures) ∙ c.mark_items.ensures.marks ∙ ap (λ (b : Bool). cond b (Some c.mark_items.new.marks.items) None) c.if-not-mark_items.true)
