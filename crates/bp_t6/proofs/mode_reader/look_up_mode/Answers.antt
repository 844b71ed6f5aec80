use Rattle.std.proofs.Common.{◌≡◌, ◌+◌, ◌*◌, length, drop, sym, ap, ◌∙◌, arith}
use Rattle.bp_codes.specs.Span.{span_bits}
use Rattle.bp_codes.specs.NextCode.{next_row}
use Rattle.bp_codes.proofs.BitListLemmas.{length-bits_of}
use Rattle.bp_t6.specs.Modes.{code}
use Rattle.bp_t6.proofs.CodeLemmas.{code_length}
use Rattle.bp_t6.proofs.StepLemmas.{mode_within}
use Rattle.bp_t6.proofs.mode_reader.look_up_mode.Goals as goal

pub overflow_add-result : goal.overflow_add-result
overflow_add-result c =
    let bits = span_bits c.args.span.now in let row = c.in-Ok.row in
    let is = sym (c.in-Ok.ensures.found ∙ ap (λ cs. next_row cs (drop c.args.at bits)) c.mode_table.ensures.is) in
    let len = c.from.ensures ∙ code_length c.mode_table-in-Ok.result.now row c.code_of.result c.code_of.ensures ∙ ap (λ cs. length (code cs row)) c.mode_table-in-Ok.ensures.is in
    let whole : length bits ≡ length c.args.span.now.bytes.now * 8 = length-bits_of c.args.span.now.fill c.args.span.now.bytes.now in
    omega (arith, mode_within bits c.args.at row c.from.result is len c.requires, whole, c.args.span.now.short)

pub returns-in-Ok-clause-next : goal.returns-in-Ok-clause-next
returns-in-Ok-clause-next c =
    let row = c.in-Ok.row in
    ap (λ n. c.args.at + n) (c.from.ensures ∙ code_length c.mode_table-in-Ok.result.now row c.code_of.result c.code_of.ensures ∙ ap (λ cs. length (code cs row)) c.mode_table-in-Ok.ensures.is)
