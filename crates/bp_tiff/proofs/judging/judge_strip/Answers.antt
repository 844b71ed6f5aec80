use Rattle.bp_tiff.proofs.JudgeLemmas.{passes_too, coded_strip, packed_strip}
use Rattle.bp_tiff.proofs.judging.judge_strip.Goals as goal

pub returns-then-layout-clause-found : goal.returns-then-layout-clause-found
returns-then-layout-clause-found c =
    passes_too _ _ c.judge_coded.result
    (coded_strip c.args.bytes.now c.args.layout.now c.args.k c.rows_at-rows.result c.strip_at-strip.result.now c.if-layout.true c.strip_at-strip.ensures.gives c.rows_at-rows.ensures)
    c.judge_coded.ensures.found

pub returns-else-layout-clause-found : goal.returns-else-layout-clause-found
returns-else-layout-clause-found c =
    passes_too _ _ c.test_packed.result
    (packed_strip c.args.bytes.now c.args.layout.now c.args.k c.rows_at-rows.result c.strip_at-strip.result.now c.if-layout.false c.strip_at-strip.ensures.gives c.rows_at-rows.ensures)
    c.test_packed.ensures.long
