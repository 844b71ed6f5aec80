use Rattle.std.proofs.Common.{arith, ℕ, ◌≡◌, ◌≤◌, ◌+◌, ◌*◌, ◌%◌, ◌&&◌, nat_eq, Err, length, drop, sym, ap, ◌∙◌, subst, length-drop}
use Rattle.bp_codes.specs.NextCode.{next_row}
use Rattle.bp_codes.specs.Span.{span_bits}
use Rattle.bp_codes.proofs.BitListLemmas.{length-bits_of}
use Rattle.std.proofs.lemmas.Bool.{and_parts, eqb-true}
use Rattle.bp_t6.specs.Modes.{run_codes, code}
use Rattle.bp_t6.specs.Written.{written_run}
use Rattle.bp_t6.proofs.CodeLemmas.{code_length}
use Rattle.bp_t6.proofs.LookLemmas.{MakeUps, make_up_more, run_end, row_length, run_missing, run_passes, few_pixels, many_pixels}
use Rattle.bp_t6.proofs.run_reader.look_up_run.Goals as goal

pub returns-in-Err-Ends-clause-fault : goal.returns-in-Err-Ends-clause-fault
returns-in-Err-Ends-clause-fault c =
    let bits = span_bits c.args.span.now in
    run_missing c.args.black c.args.room bits c.args.start c.codes.at c.codes.pixels _ c.codes.invariant.made c.codes.invariant.fits
    (sym (ap Err (sym c.in-Err-Ends.field-0-is) ∙ c.in-Err-Ends.ensures.found ∙ ap (λ cs. next_row cs (drop c.codes.at bits)) c.run_table-codes.ensures.is))

pub returns-in-Err-Strange-clause-fault : goal.returns-in-Err-Strange-clause-fault
returns-in-Err-Strange-clause-fault c =
    let bits = span_bits c.args.span.now in
    run_missing c.args.black c.args.room bits c.args.start c.codes.at c.codes.pixels _ c.codes.invariant.made c.codes.invariant.fits
    (sym (ap Err (sym c.in-Err-Strange.field-0-is) ∙ c.in-Err-Strange.ensures.found ∙ ap (λ cs. next_row cs (drop c.codes.at bits)) c.run_table-codes.ensures.is))

pub returns-then-more-room-clause-fault : goal.returns-then-more-room-clause-fault
returns-then-more-room-clause-fault c =
    let bits = span_bits c.args.span.now in
    let is = sym (c.in-Ok.ensures.found ∙ ap (λ cs. next_row cs (drop c.codes.at bits)) c.run_table-codes.ensures.is) in
    run_passes c.args.black c.args.room bits c.args.start c.codes.at c.codes.pixels c.in-Ok.row c.codes.invariant.made c.codes.invariant.fits is
    (omega (arith, c.if-more-room.true, c.pixels_of_row-more.ensures))

pub overflow_add-at : goal.overflow_add-at
overflow_add-at c =
    let bits = span_bits c.args.span.now in
    let is = sym (c.in-Ok.ensures.found ∙ ap (λ cs. next_row cs (drop c.codes.at bits)) c.run_table-codes.ensures.is) in
    let len = c.from-at.ensures ∙ code_length c.run_table-codes.result.now c.in-Ok.row c.code_of.result c.code_of.ensures ∙ ap (λ cs. length (code cs c.in-Ok.row)) c.run_table-codes.ensures.is in
    let whole : length bits ≡ length c.args.span.now.bytes.now * 8 = length-bits_of c.args.span.now.fill c.args.span.now.bytes.now in
    omega (arith, len, row_length (run_codes c.args.black) (drop c.codes.at bits) c.in-Ok.row is, length-drop c.codes.at bits, whole, c.args.span.now.short, c.codes.invariant.within)

pub returns-then-row-lt-TERMINATING_CODES-clause-next : goal.returns-then-row-lt-TERMINATING_CODES-clause-next
returns-then-row-lt-TERMINATING_CODES-clause-next c =
    let bits = span_bits c.args.span.now in
    let is = sym (c.in-Ok.ensures.found ∙ ap (λ cs. next_row cs (drop c.codes.at bits)) c.run_table-codes.ensures.is) in
    let len = c.from-at.ensures ∙ code_length c.run_table-codes.result.now c.in-Ok.row c.code_of.result c.code_of.ensures ∙ ap (λ cs. length (code cs c.in-Ok.row)) c.run_table-codes.ensures.is in
    omega (arith, len, row_length (run_codes c.args.black) (drop c.codes.at bits) c.in-Ok.row is, length-drop c.codes.at bits, c.codes.invariant.within)

pub returns-then-row-lt-TERMINATING_CODES-clause-found : goal.returns-then-row-lt-TERMINATING_CODES-clause-found
returns-then-row-lt-TERMINATING_CODES-clause-found c =
    let bits = span_bits c.args.span.now in
    let is = sym (c.in-Ok.ensures.found ∙ ap (λ cs. next_row cs (drop c.codes.at bits)) c.run_table-codes.ensures.is) in
    let len = c.from-at.ensures ∙ code_length c.run_table-codes.result.now c.in-Ok.row c.code_of.result c.code_of.ensures ∙ ap (λ cs. length (code cs c.in-Ok.row)) c.run_table-codes.ensures.is in
    let end = run_end (run_codes c.args.black) bits c.args.start c.codes.at c.codes.pixels c.in-Ok.row c.from-at.result c.codes.invariant.made is len c.if-row-lt-TERMINATING_CODES.true in
    let more = sym (c.pixels_of_row-more.ensures ∙ few_pixels c.in-Ok.row c.if-row-lt-TERMINATING_CODES.true) in
    record {
      run = end.run;
      has = end.has;
      size = end.size ∙ ap (λ n. c.codes.pixels + n) more;
      chosen = λ e. end.chosen e ∙ ap (λ n. written_run (c.codes.pixels + n)) more;
      codes = end.codes;
    }

pub codes-preserved : goal.codes-preserved
codes-preserved c =
    let bits = span_bits c.args.span.now in
    let is = sym (c.in-Ok.ensures.found ∙ ap (λ cs. next_row cs (drop c.codes.at bits)) c.run_table-codes.ensures.is) in
    let len = c.from-at.ensures ∙ code_length c.run_table-codes.result.now c.in-Ok.row c.code_of.result c.code_of.ensures ∙ ap (λ cs. length (code cs c.in-Ok.row)) c.run_table-codes.ensures.is in
    let many : 64 ≤ c.in-Ok.row = c.if-row-lt-TERMINATING_CODES.false in
    let own = c.codes.canonical && nat_eq (c.codes.pixels % 2560) 0 in
    record {
      made = subst (λ (n : ℕ). MakeUps (run_codes c.args.black) bits c.args.start (c.codes.at + c.from-at.result) (c.codes.pixels + n) own) (sym (c.pixels_of_row-more.ensures ∙ many_pixels c.in-Ok.row many))
          (make_up_more (run_codes c.args.black) bits c.args.start c.codes.at c.codes.pixels c.in-Ok.row c.from-at.result c.codes.canonical own c.codes.invariant.made is len many c.in-Ok.ensures.row
          (λ e. (let both = and_parts c.codes.canonical (nat_eq (c.codes.pixels % 2560) 0) e in (both.0, eqb-true (c.codes.pixels % 2560) 0 both.1))));
      fits = omega (arith, c.if-more-room.false, c.codes.invariant.fits);
      within = omega (arith, len, row_length (run_codes c.args.black) (drop c.codes.at bits) c.in-Ok.row is, length-drop c.codes.at bits, c.codes.invariant.within);
    }

pub returns-in-Err-Ends-clause-since : goal.returns-in-Err-Ends-clause-since
returns-in-Err-Ends-clause-since c = omega (arith, c.codes.invariant.made.long)

pub returns-in-Err-Strange-clause-since : goal.returns-in-Err-Strange-clause-since
returns-in-Err-Strange-clause-since c = omega (arith, c.codes.invariant.made.long)

pub returns-then-more-room-clause-since : goal.returns-then-more-room-clause-since
returns-then-more-room-clause-since c = omega (arith, c.codes.invariant.made.long)

pub returns-then-row-lt-TERMINATING_CODES-clause-after : goal.returns-then-row-lt-TERMINATING_CODES-clause-after
returns-then-row-lt-TERMINATING_CODES-clause-after c = omega (arith, c.codes.invariant.made.long)
