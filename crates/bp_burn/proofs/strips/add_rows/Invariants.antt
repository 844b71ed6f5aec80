use Rattle.bp_burn.proofs.MakingLemmas.{Adding}
use Rattle.bp_burn.proofs.strips.add_rows.Given as goal

-- the first rows are added
abbrev pub invariant-loop-row : goal.invariant-loop-row
invariant-loop-row l = Adding l.page.width l.initial.writer l.writer l.page.rows l.row
