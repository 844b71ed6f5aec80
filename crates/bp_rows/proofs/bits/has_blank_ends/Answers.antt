use Rattle.std.proofs.Common.{arith, sym}
use Rattle.bp_rows.proofs.PackedLemmas.{blank_ends_more, clear_end, unused_bits, byte_shl}
use Rattle.bp_rows.proofs.bits.has_blank_ends.Goals as goal

pub loop-r-preserved : goal.loop-r-preserved
loop-r-preserved c =
    blank_ends_more c.args.width c.loop-r.r c.args.bytes.now c.loop-r.invariant
    (rw (sym c.bytes_of_row-row.ensures, sym (byte_shl (unused_bits c.args.width) (omega arith))) c.if-bytes-r-ne0.false)

pub returns-then-bytes-r-ne0-clause-no : goal.returns-then-bytes-r-ne0-clause-no
returns-then-bytes-r-ne0-clause-no c ends =
    absurd
    (c.if-bytes-r-ne0.true
    (rw (c.bytes_of_row-row.ensures, byte_shl (unused_bits c.args.width) (omega arith))
    (clear_end c.args.width c.args.height c.loop-r.r c.args.bytes.now ends c.loop-r-test.true c.if-unused-eq0.false)))
