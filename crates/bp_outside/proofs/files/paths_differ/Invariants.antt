use Rattle.std.proofs.Common.{◌≡◌, length}
use Rattle.bp_outside.specs.Memory.{paths_differ}
use Rattle.bp_outside.proofs.files.paths_differ.Given as goal

abbrev pub invariant-loop-first : goal.invariant-loop-first
invariant-loop-first l = paths_differ l.files ≡ paths_differ l.rest

abbrev pub decreases-loop-first : goal.decreases-loop-first
decreases-loop-first l = length l.rest
