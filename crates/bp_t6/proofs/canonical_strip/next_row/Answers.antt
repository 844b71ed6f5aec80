use Rattle.std.proofs.Common.{◌+◌, ◌*◌, ◌≡◌, length, arith}
use Rattle.bp_codes.proofs.BitListLemmas.{length-bits_of}
use Rattle.bp_codes.specs.Span.{span_bits}
use Rattle.bp_t6.proofs.canonical_strip.next_row.Goals as goal

pub overflow_add-result : goal.overflow_add-result
overflow_add-result c =
    let whole : length (span_bits c.args.span.now) ≡ length c.args.span.now.bytes.now * 8 = length-bits_of c.args.span.now.fill c.args.span.now.bytes.now in
    omega (arith, c.ones_ahead.ensures.within c.if-ones_ahead.true, whole, c.args.span.now.short)
