use Rattle.std.proofs.Common.{◌-◌, arith}
use Rattle.bp_codes.specs.Span.{span_bits}
use Rattle.bp_t6.proofs.StepLemmas.{none_read, under_none, mode_more, row_end, row_stops}
use Rattle.bp_t6.proofs.TurnLemmas.{turns_few}
use Rattle.bp_t6.proofs.line_reader.read_row_in_room.Goals as goal

pub loop-under-init : goal.loop-under-init
loop-under-init c =
    let first = c.first_under-under.ensures in
    record {
      under = under_none c.args.above.now c.clear.new.self.items c.args.width c.first_under-under.result c.clear.ensures.items first.right first.black first.from;
      within = omega (arith, first.at, c.requires.place);
      read = λ over shows. none_read over (span_bits c.args.span.now) c.args.start c.clear.new.self.items c.first_under-under.result c.clear.ensures.items first.right first.black first.at;
      room = omega (arith, c.clear.ensures.capacity);
    }

-- a line has at most one turn at each place so far
pub read_mode-requires-clause-room : goal.read_mode-requires-clause-room
read_mode-requires-clause-room c =
    let so = c.loop-under.invariant in
    omega (arith, turns_few c.loop-under.line.items (c.loop-under.under.right - 1) so.under.turns, so.room, c.loop-under-test.true, c.requires.room, c.requires.some)

pub returns-in-Err-clause-fault : goal.returns-in-Err-clause-fault
returns-in-Err-clause-fault c = λ over shows.
    row_stops over (span_bits c.args.span.now) c.args.start c.args.width c.args.above.now c.loop-under.line.items c.loop-under.under c.in-Err.fault shows (c.loop-under.invariant.read over shows) c.loop-under-test.true c.requires.place c.loop-under.invariant.within c.in-Err.ensures.fault

pub loop-under-preserved : goal.loop-under-preserved
loop-under-preserved c = record {
  under = c.read_quick_modes-under.ensures.under;
  within = c.read_quick_modes-under.ensures.next;
  read = λ over shows. c.read_quick_modes-under.ensures.read over c.args.start shows
      (mode_more over (span_bits c.args.span.now) c.args.start c.args.width c.args.above.now c.loop-under.line.items c.read_mode.new.line.items c.loop-under.under c.in-Ok.next shows (c.loop-under.invariant.read over shows) c.in-Ok.ensures.read);
  room = omega (arith, c.loop-under.invariant.room, c.read_mode.ensures.room, c.read_quick_modes-under.ensures.room);
}

pub returns-clause-read : goal.returns-clause-read
returns-clause-read c = λ over shows.
    row_end over (span_bits c.args.span.now) c.args.start c.args.width c.args.above.now c.loop-under.line.items c.loop-under.under shows (c.loop-under.invariant.read over shows) (omega (arith, c.loop-under-test.false, c.loop-under.invariant.under.within))
