use Rattle.std.proofs.Common.{◌≡◌, ◌*◌, length, drop, arith}
use Rattle.bp_codes.specs.Span.{span_bits}
use Rattle.bp_codes.specs.Ahead.{IsAhead}
use Rattle.bp_codes.specs.CodeLists.{mode_codes}
use Rattle.bp_codes.proofs.BitListLemmas.{length-bits_of}
use Rattle.bp_t6.proofs.LookLemmas.{at_hand, nine_modes, row_in_table}
use Rattle.bp_t6.proofs.StepLemmas.{mode_within}
use Rattle.bp_t6.proofs.mode_reader.next_mode.Goals as goal

pub overflow_add-result : goal.overflow_add-result
overflow_add-result c =
    let bits = span_bits c.args.span.now in let at = c.args.at in let code = c.in-Some-mode_ahead.code in
    let ahead = at_hand c.args.ahead c.in-Some.word (λ w. IsAhead w (drop at bits)) c.in-Some.is c.requires.ahead in
    let found = c.in-Some-mode_ahead.ensures (drop at bits) ahead in
    let whole : length bits ≡ length c.args.span.now.bytes.now * 8 = length-bits_of c.args.span.now.fill c.args.span.now.bytes.now in
    omega (arith, mode_within bits at code.row code.len found.0 found.1 c.requires.place, whole, c.args.span.now.short)

pub returns-in-Some-mode_ahead-clause-row : goal.returns-in-Some-mode_ahead-clause-row
returns-in-Some-mode_ahead-clause-row c =
    let bits = span_bits c.args.span.now in let at = c.args.at in let code = c.in-Some-mode_ahead.code in
    let ahead = at_hand c.args.ahead c.in-Some.word (λ w. IsAhead w (drop at bits)) c.in-Some.is c.requires.ahead in
    let found = c.in-Some-mode_ahead.ensures (drop at bits) ahead in
    omega (arith, row_in_table mode_codes (drop at bits) code.row found.0, nine_modes)
