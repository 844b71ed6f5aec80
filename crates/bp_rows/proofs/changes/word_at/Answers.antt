use Rattle.std.proofs.Common.{arith}
use Rattle.bp_rows.proofs.WordLemmas.{word_read}
use Rattle.bp_rows.proofs.changes.word_at.Goals as goal

pub returns : goal.returns
returns c = word_read c.args.bytes.now c.args.at c.from_be_bytes.result c.requires (λ i. omega (arith, c.type_inv.bytes i)) c.from_be_bytes.ensures
