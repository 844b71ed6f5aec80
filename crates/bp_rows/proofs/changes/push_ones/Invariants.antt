use Rattle.std.proofs.Common.{◌≡◌, ◌++◌}
use Rattle.bp_rows.specs.Words.{word_ones}
use Rattle.bp_rows.proofs.changes.push_ones.Given as goal

abbrev pub invariant-loop-rest : goal.invariant-loop-rest
invariant-loop-rest l = l.places.items ++ word_ones l.base l.rest ≡ l.initial.places.items ++ word_ones l.base l.edges

abbrev pub decreases-loop-rest : goal.decreases-loop-rest
decreases-loop-rest l = l.rest
