use Rattle.std.proofs.Common.{◌≡◌, map, take}
use Rattle.bp_press.specs.Jobs.{strip_by}
use Rattle.bp_press.proofs.file_rows.strips_in_turn.Given as goal

-- the strips so far are those of the first jobs
abbrev pub invariant-loop-job : goal.invariant-loop-job
invariant-loop-job g l = l.strips.items ≡ map (strip_by (g.P.Shows.matter l.shown)) (take l.job-index l.jobs)
