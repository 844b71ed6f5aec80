use Rattle.std.proofs.Common.{arith, sym, ap, subst, ℕ, List, ◌+◌, ◌≡◌, ◌∙◌}
use Rattle.bp_t6.specs.Strips.{refusal_for}
use Rattle.bp_codes.specs.Span.{span_bits}
use Rattle.bp_rows.specs.Changes.{Shows, Rises}
use Rattle.bp_t6.proofs.StripLemmas.{LinesSoFar, none_so_far, one_more, all_read, says_fault}
use Rattle.bp_t6.proofs.strip_reader.StripReader.read_rows.Goals as goal

pub loop-row-init : goal.loop-row-init
loop-row-init c = record {
  within = omega arith;
  so = none_so_far (span_bits c.args.span.now) c.args.width _ _ c.clear.ensures.items;
}

pub read_row-requires-clause-above : goal.read_row-requires-clause-above
read_row-requires-clause-above c = subst (λ (ps : List ℕ). Rises ps c.args.width) (sym c.deref.ensures.value) c.loop-row.invariant.so.shows.rises

pub read_row-requires-clause-place : goal.read_row-requires-clause-place
read_row-requires-clause-place c = c.loop-row.invariant.within

pub returns-in-Err-clause-refused : goal.returns-in-Err-clause-refused
returns-in-Err-clause-refused c =
    says_fault (span_bits c.args.span.now) c.args.width c.args.rows c.args.first c.loop-row.row c.loop-row.at _ c.loop-row.out.items c.loop-row.self.above.items c.in-Err.stop c.refusal_of.result
    c.loop-row.invariant.so c.loop-row.invariant.within c.loop-row-test.true
    (λ over shows. c.in-Err.ensures.fault over (subst (λ (ps : List ℕ). Shows ps c.args.width over) (sym c.deref.ensures.value) shows))
    (let same : c.from.result + c.from-in-Err.result ≡ c.args.first + c.loop-row.row = omega (arith, c.from.ensures, c.from-in-Err.ensures) in
    c.refusal_of.ensures ∙ ap (refusal_for c.in-Err.stop) same)

pub loop-row-preserved : goal.loop-row-preserved
loop-row-preserved c = record {
  within = c.in-Ok.ensures.next;
  so = subst (λ (ps : List ℕ). LinesSoFar (span_bits c.args.span.now) c.args.width (c.loop-row.row + 1) c.in-Ok.next c.args.out.now.items c.push_row.new.strip.items ps) (sym (ap (λ v. v.items) c.swap.ensures.y_after))
      (one_more (span_bits c.args.span.now) c.args.width c.loop-row.row c.loop-row.at c.in-Ok.next _ c.loop-row.out.items c.loop-row.self.above.items c.read_row.new.line.items c.push_row.new.strip.items c.loop-row.invariant.so
      (λ over shows. c.in-Ok.ensures.read over (subst (λ (ps : List ℕ). Shows ps c.args.width over) (sym c.deref.ensures.value) shows))
      (λ row shows. c.in_ok-push_row.ensures.added row (subst (λ (ps : List ℕ). Shows ps c.args.width row) (sym c.deref-in-loop-row.ensures.value) shows)));
}

pub returns-clause-read : goal.returns-clause-read
returns-clause-read c =
    all_read (span_bits c.args.span.now) c.args.width c.loop-row.row c.args.rows c.loop-row.at _ c.loop-row.out.items c.loop-row.self.above.items c.loop-row.invariant.so (omega (arith, c.loop-row-test.false))
