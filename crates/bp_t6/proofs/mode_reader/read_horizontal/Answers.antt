use Rattle.std.proofs.Common.{◌≡◌, ◌-◌, ◌+◌, ◌++◌, ℕ, drop, refl, sym, ap, ◌∙◌, arith, subst}
use Rattle.bp_codes.specs.Span.{span_bits}
use Rattle.std.proofs.lemmas.Bool.{and_parts}
use Rattle.bp_t6.specs.Modes.{Horizontal, mode_bits}
use Rattle.bp_rows.specs.Changes.{Shows}
use Rattle.bp_t6.proofs.StepLemmas.{horizontal_steps, horizontal_bits, first_stops, second_stops, horizontal_stops}
use Rattle.bp_t6.proofs.mode_reader.read_horizontal.Goals as goal

pub returns-in-Err-clause-fault : goal.returns-in-Err-clause-fault
returns-in-Err-clause-fault c =
    let f = c.in-Err in
    first_stops (span_bits c.args.span.now) c.args.width c.args.above.now c.args.under f.fault c.args.at c.saturating_sub-from.result c.requires.three f.ensures.since c.saturating_sub-from.ensures c.requires.code f.ensures.fault

pub returns-in-Err-read_run-clause-fault : goal.returns-in-Err-read_run-clause-fault
returns-in-Err-read_run-clause-fault c =
    let f = c.in-Err-read_run in let p = c.in-Ok.ensures.found in
    second_stops (span_bits c.args.span.now) c.args.width c.args.above.now c.args.under f.fault p.run c.args.at c.saturating_sub-from.result c.in-Ok.run'.next c.in-Ok.run'.pixels
    c.requires.three c.requires.place c.in-Ok.ensures.next f.ensures.since c.saturating_sub-from.ensures c.requires.on p.has p.size c.in-Ok.ensures.room c.requires.code p.codes f.ensures.fault

pub returns-then-end-under-clause-fault : goal.returns-then-end-under-clause-fault
returns-then-end-under-clause-fault c =
    let p = c.in-Ok.ensures.found in let q = c.in-Ok-read_run.ensures.found in
    horizontal_stops (span_bits c.args.span.now) c.args.width c.args.above.now c.args.under _ p.run q.run c.in-Ok-read_run.run'.next refl refl p.has q.has
    (horizontal_bits (span_bits c.args.span.now) c.args.width c.args.above.now c.args.under p.run q.run c.args.at c.in-Ok.run'.next c.in-Ok-read_run.run'.next c.requires.code p.codes q.codes)
    (omega (arith, p.size, q.size, c.saturating_sub-from.ensures, c.if-end-under.true))

pub returns-clause-read : goal.returns-clause-read
returns-clause-read c = λ over px shows_over shows.
    let bits = span_bits c.args.span.now in let u = c.args.under in
    let p = c.in-Ok.ensures.found in let q = c.in-Ok-read_run.ensures.found in
    let v = c.go_on.result in
    let first = c.in-Ok.run'.pixels in let second = c.in-Ok-read_run.run'.pixels in
    let start = c.saturating_sub-from.result in
    let reads = horizontal_bits bits c.args.width c.args.above.now u p.run q.run c.args.at c.in-Ok.run'.next c.in-Ok-read_run.run'.next c.requires.code p.codes q.codes in
    let place = c.go_on.ensures.right in let black = c.go_on.ensures.black in
    let one = c.turn.ensures in let two = c.turn-2.ensures in
    let last : c.go_on.result.right - 1 ≡ start + first + second = omega (arith, place) in
    record {
      mode = Horizontal p.run q.run;
      codes = reads ∙ ap (λ k. mode_bits u.black (Horizontal p.run q.run) ++ drop k bits) (sym c.go_on.ensures.at);
      steps = horizontal_steps bits c.args.width c.args.above.now u over px c.args.line.now.items c.turn.new.line.items c.turn-2.new.line.items v p.run q.run first second (start + first) shows_over p.has q.has p.size q.size
          c.requires.under.turns c.requires.under.colour shows (omega (arith, c.saturating_sub-from.ensures)) place black
          (omega (arith, place, c.if-end-under.false)) (omega (arith, place, c.in-Ok.ensures.room, c.in-Ok-read_run.ensures.room, c.saturating_sub-from.ensures, c.requires.on))
          one.turns one.colour one.shows
          (λ ps h. subst (λ (k : ℕ). Shows c.turn-2.new.line.items k ps) (sym last) (two.shows ps (subst (λ (k : ℕ). Shows c.turn.new.line.items k ps) last h)))
          (λ e. (let both = and_parts u.canonical c.are_canonical.result (sym c.go_on.ensures.canonical ∙ e) in
          (both.0, c.are_canonical.ensures over p.run q.run shows_over p.size p.chosen q.size q.chosen both.1)));
    }

pub read_run-requires-2-clause-from : goal.read_run-requires-2-clause-from
read_run-requires-2-clause-from c = omega (arith, c.in-Ok.ensures.after, c.requires.three)
