use Rattle.bp_burn.specs.Strips.{white_rows}
use Rattle.bp_burn.proofs.MakingLemmas.{Adding}
use Rattle.bp_burn.proofs.slip_strips.add_white_rows.Given as goal

-- the first rows are added
abbrev pub invariant-loop-row : goal.invariant-loop-row
invariant-loop-row l = Adding l.initial.writer.width l.initial.writer l.writer (white_rows l.initial.writer.width l.rows) l._row
