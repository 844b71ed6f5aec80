use Rattle.std.proofs.Common.{◌-◌, arith}
use Rattle.bp_codes.specs.Span.{span_bits}
use Rattle.bp_t6.specs.Reading.{ModesRead}
use Rattle.bp_t6.proofs.CanonicalLemmas.{canonical_end}
use Rattle.bp_t6.proofs.StepLemmas.{none_read, under_none, mode_more}
use Rattle.bp_t6.proofs.TurnLemmas.{turns_few}
use Rattle.bp_t6.proofs.line_reader.read_canonical_row.Goals as goal

pub loop-under-init : goal.loop-under-init
loop-under-init c =
    let first = c.first_under-under.ensures in
    record {
      under = under_none c.args.above.now c.clear.new.self.items c.args.width c.first_under-under.result c.clear.ensures.items first.right first.black first.from;
      within = omega (arith, first.at, c.requires.place);
      read = λ over shows. none_read over (span_bits c.args.span.now) c.args.start c.clear.new.self.items c.first_under-under.result c.clear.ensures.items first.right first.black first.at;
      room = omega (arith, c.clear.ensures.capacity);
    }

-- a line has at most one turn at each place so far
pub read_mode-requires-clause-room : goal.read_mode-requires-clause-room
read_mode-requires-clause-room c =
    let so = c.loop-under.invariant in
    omega (arith, turns_few c.loop-under.line.items (c.loop-under.under.right - 1) so.under.turns, so.room, c.loop-under-test.true, c.requires.room, c.requires.some)

pub loop-under-preserved : goal.loop-under-preserved
loop-under-preserved c = record {
  under = c.read_quick_modes-under.ensures.under;
  within = c.read_quick_modes-under.ensures.next;
  read = λ over shows.
      let so = mode_more over (span_bits c.args.span.now) c.args.start c.args.width c.args.above.now c.loop-under.line.items c.read_mode.new.line.items c.loop-under.under c.in-Ok.next shows (c.loop-under.invariant.read over shows) c.in-Ok.ensures.read in
      c.read_quick_modes-under.ensures.read over c.args.start shows
      (record { modes = so.modes; move = so.move; reads = so.reads; there = so.there; shows = so.shows; chosen = λ e. so.chosen c.if-next.true });
  room = omega (arith, c.loop-under.invariant.room, c.read_mode.ensures.room, c.read_quick_modes-under.ensures.room);
}

pub returns-then-under-clause-coded : goal.returns-then-under-clause-coded
returns-then-under-clause-coded c = λ over shows.
    canonical_end over (span_bits c.args.span.now) c.args.start c.args.width c.args.above.now c.loop-under.line.items c.loop-under.under shows (c.loop-under.invariant.read over shows) c.if-under.true
    (omega (arith, c.loop-under-test.false, c.loop-under.invariant.under.within))
