use Rattle.std.proofs.Common.{◌-◌, length}
use Rattle.bp_rows.proofs.RunLemmas.{RunsTo}
use Rattle.bp_rows.proofs.runs.push_runs.Given as goal

abbrev pub invariant-loop-k : goal.invariant-loop-k
invariant-loop-k l = RunsTo l.places l.width l.runs.items l.k l.last

abbrev pub decreases-loop-k : goal.decreases-loop-k
decreases-loop-k l = length l.places - l.k
