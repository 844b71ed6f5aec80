use Rattle.bp_matter.proofs.KeptLemmas.{CodingAgain}
use Rattle.bp_matter.proofs.images.coded_again.Given as goal

-- the rows so far are read, and coded again
abbrev pub invariant-loop-row : goal.invariant-loop-row
invariant-loop-row l = CodingAgain l.width l.bytes l._row l.rows l.writer
