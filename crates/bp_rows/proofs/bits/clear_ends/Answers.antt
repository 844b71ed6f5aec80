use Rattle.std.proofs.Common.{◌+◌, ◌*◌, ◌≤◌, length, arith}
use Rattle.bp_rows.specs.Bits.{row_bytes}
use Rattle.bp_rows.proofs.PackedLemmas.{rows_apart}
use Rattle.bp_rows.proofs.ClearingLemmas.{cleared_more, masked_fit}
use Rattle.bp_rows.proofs.bits.clear_ends.Goals as goal

pub loop-r-preserved : goal.loop-r-preserved
loop-r-preserved c =
    let w = c.args.width in
    let apart : c.loop-r.r * row_bytes w + row_bytes w ≤ c.args.height * row_bytes w = rows_apart c.loop-r.r c.args.height (row_bytes w) c.loop-r-test.true in
    let room : c.loop-r.r * row_bytes w + row_bytes w ≤ length c.loop-r.bytes = omega (arith, c.loop-r.invariant.cleared.long, c.requires.long) in
    rw c.bytes_of_row-row.ensures (record {
      cleared = cleared_more w c.loop-r.r c.args.bytes.now c.loop-r.bytes room c.if-unused-eq0.false c.loop-r.invariant.cleared;
      fit = masked_fit w c.loop-r.r c.loop-r.bytes room c.loop-r.invariant.fit;
    })
