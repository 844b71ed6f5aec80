use Rattle.std.proofs.Common.{arith, ◌+◌}
use Rattle.bp_codes.specs.Span.{span_bits}
use Rattle.bp_tiff.proofs.InTurnLemmas.{refused_too}
use Rattle.bp_tiff.proofs.JudgeLemmas.{no_row_read, row_read, rows_read, row_breaks, row_fits}
use Rattle.bp_tiff.proofs.judging.judge_coded.Goals as goal

pub loop-row-init : goal.loop-row-init
loop-row-init c =
    no_row_read (span_bits c.args.span.now) c.args.width c.in_ok-reader.reader c.in_ok-reader.ensures.unread c.in_ok-reader.ensures.none

pub loop-row-preserved : goal.loop-row-preserved
loop-row-preserved c =
    let so = c.loop-row.invariant in
    let read = c.in_default.ensures in
    row_read (span_bits c.args.span.now) c.args.width c.loop-row._row c.loop-row.reader c.next_row.new.self
    so read.bits read.width read.read (read.next so.lines so.read)

pub counted_on-requires : goal.counted_on-requires
counted_on-requires c =
    let so = c.loop-row.invariant in
    let reader = c.loop-row.reader in
    refused_too _ _ c.in-Err.refusal (λ rule says. row_fits reader.bits reader.width (reader.row + 1) rule (omega (arith, so.read.count, so.count)) says)
    (c.in-Err.ensures.fault so.lines so.read so.fault)

pub returns-in-Err-clause-refused : goal.returns-in-Err-clause-refused
returns-in-Err-clause-refused c =
    let so = c.loop-row.invariant in
    c.counted_on.ensures (span_bits c.args.span.now) c.args.width c.args.rows
    (refused_too _ _ c.in-Err.refusal (λ rule says. row_breaks (span_bits c.args.span.now) c.args.width c.args.rows c.loop-row._row c.loop-row.reader rule so (omega arith) says)
    (c.in-Err.ensures.fault so.lines so.read so.fault))

pub returns-clause-found : goal.returns-clause-found
returns-clause-found c =
    rows_read (span_bits c.args.span.now) c.args.width c.args.rows c.loop-row._row c.loop-row.reader c.loop-row.invariant (omega arith)
