use Rattle.std.proofs.Common.{arith}
use Rattle.bp_codes.proofs.AheadLemmas.{ahead_is}
use Rattle.bp_codes.proofs.span.BitSpan.ahead.Goals as goal

pub returns-in-High-clause-ahead : goal.returns-in-High-clause-ahead
returns-in-High-clause-ahead c =
    let s = c.args.self.now in
    ahead_is s.fill s.bytes.now c.args.at c.long_word.result c.in-High.is (omega arith) c.long_word.ensures
