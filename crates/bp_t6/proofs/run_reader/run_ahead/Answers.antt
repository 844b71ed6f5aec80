use Rattle.std.proofs.Common.{◌≡◌, ◌*◌, length, drop, sym, ap, ◌∙◌, arith, length-drop}
use Rattle.bp_codes.specs.NextCode.{next_row}
use Rattle.bp_codes.specs.Span.{span_bits}
use Rattle.bp_codes.proofs.BitListLemmas.{length-bits_of}
use Rattle.bp_t6.specs.Modes.{run_codes}
use Rattle.bp_t6.specs.Written.{written_run}
use Rattle.bp_t6.proofs.LookLemmas.{led_to, none_yet, run_end, row_length}
use Rattle.bp_t6.proofs.run_reader.run_ahead.Goals as goal

pub overflow_add-result : goal.overflow_add-result
overflow_add-result c =
    let bits = span_bits c.args.span.now in let start = c.args.start in let code = c.in-Some.code in
    let codes = run_codes c.args.black in
    let found = c.in-Some.ensures (drop c.args.from bits) c.requires.ahead in
    let is = ap (next_row codes) (sym (led_to bits c.args.from start c.requires.from)) ∙ found.0 in
    let whole : length bits ≡ length c.args.span.now.bytes.now * 8 = length-bits_of c.args.span.now.fill c.args.span.now.bytes.now in
    omega (arith, found.1, row_length codes (drop start bits) code.row is, length-drop start bits, c.requires.place, whole, c.args.span.now.short)

pub returns-clause-found : goal.returns-clause-found
returns-clause-found c =
    let bits = span_bits c.args.span.now in let start = c.args.start in let code = c.in-Some.code in
    let codes = run_codes c.args.black in
    let found = c.in-Some.ensures (drop c.args.from bits) c.requires.ahead in
    let is = ap (next_row codes) (sym (led_to bits c.args.from start c.requires.from)) ∙ found.0 in
    let end = run_end codes bits start start 0 code.row code.len (none_yet codes bits start) is found.1 (omega (arith, c.if-code-ge-TERMINATING_CODES.false)) in
    record { run = end.run; has = end.has; size = end.size ∙ omega arith; chosen = λ e. end.chosen e ∙ ap written_run (omega arith); codes = end.codes }

pub returns-clause-next : goal.returns-clause-next
returns-clause-next c =
    let bits = span_bits c.args.span.now in let start = c.args.start in let code = c.in-Some.code in
    let codes = run_codes c.args.black in
    let found = c.in-Some.ensures (drop c.args.from bits) c.requires.ahead in
    let is = ap (next_row codes) (sym (led_to bits c.args.from start c.requires.from)) ∙ found.0 in
    omega (arith, found.1, row_length codes (drop start bits) code.row is, length-drop start bits, c.requires.place)
