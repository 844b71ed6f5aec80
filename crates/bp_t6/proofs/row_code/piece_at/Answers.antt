use Rattle.std.proofs.Common.{◌∙◌, take, drop, ap, sym}
use Rattle.bp_codes.specs.Span.{span_bits}
use Rattle.bp_t6.proofs.CopyLemmas.{bit_there}
use Rattle.bp_t6.proofs.row_code.piece_at.Goals as goal

pub returns-in-Some-clause-bits : goal.returns-in-Some-clause-bits
returns-in-Some-clause-bits c =
    let bits = drop c.args.at (span_bits c.args.span.now) in
    c.first_bits.ensures.bits bits c.in-Some.ensures.ahead ∙ ap (λ n. take n bits) (sym c.first_bits.ensures.len)

pub returns-in-None-clause-bits : goal.returns-in-None-clause-bits
returns-in-None-clause-bits c =
    let bits = span_bits c.args.span.now in
    c.one_bit.ensures.bits ∙ sym (bit_there bits c.args.at c.bit.result c.bit.ensures)
    ∙ ap (λ n. take n (drop c.args.at bits)) (sym c.one_bit.ensures.len)
