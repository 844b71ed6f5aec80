use Rattle.std.proofs.Common.{drop, sym, ◌∙◌, arith, length-drop}
use Rattle.bp_codes.specs.Span.{span_bits}
use Rattle.bp_t6.proofs.SameRowLemmas.{ones_then}
use Rattle.bp_t6.proofs.same_row.ones_ahead.Goals as goal

pub returns-in-Some-clause-ones : goal.returns-in-Some-clause-ones
returns-in-Some-clause-ones c = λ is.
    let bits = span_bits c.args.span.now in
    ones_then bits c.args.at c.args.count (c.are_ones.ensures (drop c.args.at bits) c.in-Some.ensures.ahead is)

pub returns-in-Some-clause-within : goal.returns-in-Some-clause-within
returns-in-Some-clause-within c = λ is.
    omega (arith, c.in-Some.ensures.ahead.long, length-drop c.args.at (span_bits c.args.span.now))
