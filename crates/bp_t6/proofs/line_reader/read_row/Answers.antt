use Rattle.std.proofs.Common.{List, ℕ, ◌≡◌, ◌+◌, ◌*◌, ◌++◌, length, ap, sym, ◌∙◌, subst, arith}
use Rattle.bp_codes.proofs.BitListLemmas.{length-bits_of}
use Rattle.bp_codes.specs.Span.{span_bits}
use Rattle.bp_t6.specs.Reading.{IsUnder, ModesRead}
use Rattle.bp_t6.proofs.SameRowLemmas.{row_again}
use Rattle.bp_t6.proofs.StepLemmas.{none_read, under_none, mode_more, row_end, row_stops}
use Rattle.bp_t6.proofs.line_reader.read_row.Goals as goal

pub loop-under-init : goal.loop-under-init
loop-under-init c =
    let first = c.first_under-under.ensures in
    record {
      under = under_none c.args.above.now c.clear.new.self.items c.args.width c.first_under-under.result c.clear.ensures.items first.right first.black first.from;
      within = omega (arith, first.at, c.requires.place);
      read = λ over shows. none_read over (span_bits c.args.span.now) c.args.start c.clear.new.self.items c.first_under-under.result c.clear.ensures.items first.right first.black first.at;
    }

pub read_mode-requires-clause-under : goal.read_mode-requires-clause-under
read_mode-requires-clause-under c =
    subst (λ (ts : List ℕ). IsUnder c.args.above.now ts c.args.width c.loop-under.under) (sym c.make_room.ensures.kept) c.loop-under.invariant.under

pub returns-in-Err-clause-fault : goal.returns-in-Err-clause-fault
returns-in-Err-clause-fault c = λ over shows.
    row_stops over (span_bits c.args.span.now) c.args.start c.args.width c.args.above.now c.loop-under.line.items c.loop-under.under c.in-Err.fault shows (c.loop-under.invariant.read over shows) c.loop-under-test.true c.requires.place c.loop-under.invariant.within c.in-Err.ensures.fault

pub loop-under-preserved : goal.loop-under-preserved
loop-under-preserved c = record {
  under = c.read_quick_modes-under.ensures.under;
  within = c.read_quick_modes-under.ensures.next;
  read = λ over shows.
      let so = subst (λ (ts : List ℕ). ModesRead over (span_bits c.args.span.now) c.args.start ts c.loop-under.under) (sym c.make_room.ensures.kept) (c.loop-under.invariant.read over shows) in
      c.read_quick_modes-under.ensures.read over c.args.start shows
      (mode_more over (span_bits c.args.span.now) c.args.start c.args.width c.args.above.now c.make_room.new.line.items c.read_mode.new.line.items c.loop-under.under c.in-Ok.next shows so c.in-Ok.ensures.read);
}

pub returns-clause-read : goal.returns-clause-read
returns-clause-read c = λ over shows.
    row_end over (span_bits c.args.span.now) c.args.start c.args.width c.args.above.now c.loop-under.line.items c.loop-under.under shows (c.loop-under.invariant.read over shows) (omega (arith, c.loop-under-test.false, c.loop-under.invariant.under.within))

pub returns-then-ones_ahead-clause-next : goal.returns-then-ones_ahead-clause-next
returns-then-ones_ahead-clause-next c = c.ones_ahead.ensures.within c.if-ones_ahead.true

pub returns-then-ones_ahead-clause-read : goal.returns-then-ones_ahead-clause-read
returns-then-ones_ahead-clause-read c = λ over shows.
    let above = c.args.above.now in let ones = c.ones_of-ones in
    row_again (span_bits c.args.span.now) over above c.extend_from_slice.new.self.items c.args.start (c.args.start + ones.result) c.args.width ones.result shows (ones.ensures over over shows shows)
    (c.in_ok-extend_from_slice.ensures.items ∙ ap (λ (xs : List ℕ). xs ++ above) c.clear.ensures.items) (c.ones_ahead.ensures.ones c.if-ones_ahead.true)

pub overflow_add-result : goal.overflow_add-result
overflow_add-result c =
    let whole : length (span_bits c.args.span.now) ≡ length c.args.span.now.bytes.now * 8 = length-bits_of c.args.span.now.fill c.args.span.now.bytes.now in
    omega (arith, c.ones_ahead.ensures.within c.if-ones_ahead.true, whole, c.args.span.now.short)
