use Rattle.std.proofs.Common.{refl, arith}
use Rattle.bp_t6.proofs.NearLemmas.{begins_near}
use Rattle.bp_t6.proofs.near_reader.near_ahead.Goals as goal

pub returns : goal.returns
returns c = λ count bits holds more.
    begins_near c.args.word count _ bits _ holds more refl (omega (arith, c.if-entry-lt256.false)) refl c.from.ensures
