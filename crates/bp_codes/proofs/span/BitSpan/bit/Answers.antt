use Rattle.std.proofs.Common.{arith}
use Rattle.bp_codes.proofs.BitListLemmas.{length-bits_of, bit_when_high, bit_when_low}
use Rattle.bp_codes.proofs.span.BitSpan.bit.Goals as goal

pub bounds-self-at : goal.bounds-self-at
bounds-self-at c =
    let s = c.args.self.now in
    omega (arith, length-bits_of s.fill s.bytes.now, c.requires)

pub returns-in-High : goal.returns-in-High
returns-in-High c = bit_when_high c.args.self.now.fill c.args.self.now.bytes.now c.args.at c.in-High.is c.requires

pub returns-in-Low : goal.returns-in-Low
returns-in-Low c = bit_when_low c.args.self.now.fill c.args.self.now.bytes.now c.args.at c.in-Low.is c.requires
