use Rattle.std.proofs.Common.{arith, refl, ◌∙◌, ◌<◌, length, get_or, false}
use Rattle.bp_codes.specs.Span.{span_bits}
use Rattle.bp_t6.proofs.MissingLemmas.{front-end, front-differs, front-same, read_bit, test_apart, test_same}
use Rattle.bp_t6.proofs.missing.front_at.Goals as goal

pub returns-then-at-count : goal.returns-then-at-count
returns-then-at-count c =
    front-end c.args.code.now (span_bits c.args.span.now) c.loop-k.k c.loop-k.at c.loop-k-test.true (omega (arith, c.len-count.ensures, c.if-at-count.true)) ∙ c.loop-k.invariant.same

pub returns-then-bit-code : goal.returns-then-bit-code
returns-then-bit-code c =
    let bits = span_bits c.args.span.now in let code = c.args.code.now in
    front-differs code bits c.loop-k.k c.loop-k.at c.bit.result (get_or code c.loop-k.k false) c.loop-k-test.true (omega (arith, c.len-count.ensures, c.if-at-count.false))
    (read_bit bits c.loop-k.at c.bit.result c.bit.ensures) refl (test_apart c.bit.result (get_or code c.loop-k.k false) c.if-bit-code.true) ∙ c.loop-k.invariant.same

pub loop-k-preserved : goal.loop-k-preserved
loop-k-preserved c =
    let bits = span_bits c.args.span.now in let code = c.args.code.now in
    let inside : c.loop-k.at < length bits = omega (arith, c.len-count.ensures, c.if-at-count.false) in
    record {
      within = omega arith;
      short = omega (arith, c.loop-k-test.true);
      same = front-same code bits c.loop-k.k c.loop-k.at c.bit.result (get_or code c.loop-k.k false) c.loop-k-test.true inside
          (read_bit bits c.loop-k.at c.bit.result c.bit.ensures) refl (test_same c.bit.result (get_or code c.loop-k.k false) c.if-bit-code.false) ∙ c.loop-k.invariant.same;
    }
