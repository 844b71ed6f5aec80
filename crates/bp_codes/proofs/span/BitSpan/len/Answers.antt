use Rattle.std.proofs.Common.{sym}
use Rattle.bp_codes.proofs.BitListLemmas.{length-bits_of}
use Rattle.bp_codes.proofs.span.BitSpan.len.Goals as goal

pub returns : goal.returns
returns c = sym (length-bits_of c.args.self.now.fill c.args.self.now.bytes.now)
