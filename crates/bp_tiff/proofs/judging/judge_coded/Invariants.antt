use Rattle.bp_codes.specs.Span.{span_bits}
use Rattle.bp_tiff.proofs.JudgeLemmas.{HasReadRows}
use Rattle.bp_tiff.proofs.judging.judge_coded.Given as goal

abbrev pub invariant-loop-row : goal.invariant-loop-row
invariant-loop-row l = HasReadRows (span_bits l.span) l.width l._row l.reader
