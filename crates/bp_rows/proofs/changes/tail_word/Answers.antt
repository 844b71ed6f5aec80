use Rattle.std.proofs.Common.{arith}
use Rattle.bp_rows.proofs.FindLemmas.{tail_read}
use Rattle.bp_rows.proofs.changes.tail_word.Goals as goal

pub returns : goal.returns
returns c =
    tail_read c.args.bytes.now c.args.at c.from_be_bytes.result _ _ _ _ _ _ _ _ c.requires.within c.requires.short (λ i. omega (arith, c.type_inv.bytes i))
    c.byte_at.ensures c.byte_at-2.ensures c.byte_at-3.ensures c.byte_at-4.ensures c.byte_at-5.ensures c.byte_at-6.ensures c.byte_at-7.ensures c.byte_at-8.ensures c.from_be_bytes.ensures
