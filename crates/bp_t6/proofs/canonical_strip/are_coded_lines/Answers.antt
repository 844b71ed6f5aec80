use Rattle.std.proofs.Common.{ℕ, ◌+◌, ◌≡◌, subst, arith}
use Rattle.bp_codes.specs.Span.{span_bits}
use Rattle.bp_t6.specs.Canonical.{LinesAreCoded}
use Rattle.bp_t6.proofs.CanonicalStripLemmas.{none_coded, line_coded}
use Rattle.bp_t6.proofs.canonical_strip.are_coded_lines.Goals as goal

pub loop-row-init : goal.loop-row-init
loop-row-init c = record {
  within = omega arith;
  so = none_coded (span_bits c.args.span.now) c.args.width _ c.in_ok-above.ensures.items;
  above_room = omega (arith, c.in_ok-above.ensures.exact, c.room_for.ensures);
  line_room = omega (arith, c.in_ok-line.ensures.exact, c.room_for-2.ensures);
}

pub loop-row-preserved : goal.loop-row-preserved
loop-row-preserved c = record {
  within = c.in-Some.ensures.next;
  so = line_coded (span_bits c.args.span.now) c.args.width c.loop-row.row c.loop-row.at c.in-Some.next c.loop-row.above.items c.next_row.new.above.items c.loop-row.invariant.so c.in-Some.ensures.coded;
  above_room = c.next_row.ensures.above_room;
  line_room = c.next_row.ensures.line_room;
}

pub returns : goal.returns
returns c = λ e.
    let all : c.loop-row.row ≡ c.args.height = omega (arith, c.loop-row-test.false) in
    record {
      at = c.loop-row.at;
      above = c.loop-row.above.items;
      coded = subst (λ (n : ℕ). LinesAreCoded (span_bits c.args.span.now) c.args.width n c.loop-row.at c.loop-row.above.items) all c.loop-row.invariant.so;
      end = c.ends_block.ensures e;
    }
