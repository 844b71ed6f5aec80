use Rattle.std.proofs.Common.{◌+◌, ◌++◌, nat_le, length, drop, sym, ap, ◌∙◌, arith}
use Rattle.bp_codes.specs.Span.{span_bits}
use Rattle.bp_codes.specs.CodeLists.{mode_codes}
use Rattle.bp_t6.specs.Modes.{code, Pass}
use Rattle.bp_rows.proofs.ShownLemmas.{up}
use Rattle.std.proofs.lemmas.Bool.{and_parts, leb-true}
use Rattle.bp_t6.proofs.PlaceLemmas.{from_small}
use Rattle.bp_t6.proofs.StepLemmas.{of_fault, vertical_stops, vertical_reads, pass_steps, mode_ends, mode_inside, three_bits, missing_stops, at_most}
use Rattle.bp_t6.proofs.mode_reader.read_mode.Goals as goal

pub returns-in-Err-clause-fault : goal.returns-in-Err-clause-fault
returns-in-Err-clause-fault c = missing_stops (span_bits c.args.span.now) c.args.width c.args.above.now c.args.under c.in-Err.fault c.in-Err.ensures.bit c.in-Err.ensures.fault

pub overflow_add-under : goal.overflow_add-under
overflow_add-under c =
    let small = from_small c.args.above.now c.args.width c.args.under.from c.args.under.right c.args.under.black (c.requires.under.from c.requires.on) c.requires.on in omega arith

pub returns-then-row-eq0-clause-next : goal.returns-then-row-eq0-clause-next
returns-then-row-eq0-clause-next c =
    let bits = span_bits c.args.span.now in let at = c.args.under.at in let row = c.in-Ok.mode.row in
    omega (arith, mode_inside bits at row c.in-Ok.mode.next c.in-Ok.ensures.found c.in-Ok.ensures.next c.requires.place, c.go_on.ensures.at)

pub returns-then-row-eq0-clause-read : goal.returns-then-row-eq0-clause-read
returns-then-row-eq0-clause-read c = λ over px shows_over shows.
    let bits = span_bits c.args.span.now in let u = c.args.under in let row = c.in-Ok.mode.row in
    let place = c.go_on.ensures.right ∙ ap (λ k. k + 1) c.place_in-right.ensures in
    let next = c.requires.under.from c.requires.on in
    record {
      mode = Pass;
      codes = mode_ends bits u.at row c.in-Ok.mode.next c.in-Ok.ensures.found c.in-Ok.ensures.next ∙ ap (λ r. code mode_codes r ++ drop c.in-Ok.mode.next bits) c.if-row-eq0.true ∙ ap (λ k. code mode_codes 0 ++ drop k bits) (sym c.go_on.ensures.at);
      steps = pass_steps c.args.above.now c.args.width over u shows_over next c.args.line.now.items c.go_on.result px c.requires.under.turns c.requires.under.colour shows place c.go_on.ensures.black
          (omega (arith, place, next.ahead, up c.args.above.now c.args.width u.from c.requires.above)) (omega (arith, place, c.requires.above.within (u.from + 1)))
          (λ e. (let right = c.place_in-right.result + 1 in let both = and_parts u.canonical (nat_le right c.args.width) (sym c.go_on.ensures.canonical ∙ e) in
          (both.0, omega (arith, leb-true right c.args.width both.1, c.go_on.ensures.right))));
    }

pub read_horizontal-requires-clause-place : goal.read_horizontal-requires-clause-place
read_horizontal-requires-clause-place c =
    let bits = span_bits c.args.span.now in let at = c.args.under.at in let row = c.in-Ok.mode.row in
    mode_inside bits at row c.in-Ok.mode.next c.in-Ok.ensures.found c.in-Ok.ensures.next c.requires.place

pub read_horizontal-requires-clause-three : goal.read_horizontal-requires-clause-three
read_horizontal-requires-clause-three c =
    c.in-Ok.ensures.next ∙ ap (λ n. c.args.under.at + n) (ap (λ r. length (code mode_codes r)) c.if-row-eq1.true ∙ three_bits)

pub read_horizontal-requires-clause-code : goal.read_horizontal-requires-clause-code
read_horizontal-requires-clause-code c =
    let bits = span_bits c.args.span.now in let at = c.args.under.at in let row = c.in-Ok.mode.row in
    mode_ends bits at row c.in-Ok.mode.next c.in-Ok.ensures.found c.in-Ok.ensures.next ∙ ap (λ r. code mode_codes r ++ drop c.in-Ok.mode.next bits) c.if-row-eq1.true

pub returns-clause-next : goal.returns-clause-next
returns-clause-next c =
    let bits = span_bits c.args.span.now in let at = c.args.under.at in let row = c.in-Ok.mode.row in
    at_most c.read_vertical.result c.in-Ok.mode.next (length bits) c.read_vertical.ensures.at (mode_inside bits at row c.in-Ok.mode.next c.in-Ok.ensures.found c.in-Ok.ensures.next c.requires.place)

pub returns-clause-read : goal.returns-clause-read
returns-clause-read c =
    let bits = span_bits c.args.span.now in let at = c.args.under.at in let row = c.in-Ok.mode.row in
    vertical_reads bits c.args.width c.args.above.now c.args.under c.args.line.now.items c.read_vertical.new.line.items c.shift_of.result c.in-Ok.mode.next row c.read_vertical.result
    c.shift_of.ensures.row (mode_ends bits at row c.in-Ok.mode.next c.in-Ok.ensures.found c.in-Ok.ensures.next) c.read_vertical.ensures.at c.read_vertical.ensures.steps

pub returns-clause-fault : goal.returns-clause-fault
returns-clause-fault c =
    let bits = span_bits c.args.span.now in let at = c.args.under.at in let row = c.in-Ok.mode.row in
    of_fault c.read_vertical.result (λ f. vertical_stops bits c.args.width c.args.above.now c.args.under c.shift_of.result c.in-Ok.mode.next row c.shift_of.ensures.small c.shift_of.ensures.row (mode_ends bits at row c.in-Ok.mode.next c.in-Ok.ensures.found c.in-Ok.ensures.next) f) c.read_vertical.ensures.fault
