use Rattle.std.proofs.Common.{◌≡◌, ◌++◌, length}
use Rattle.bp_import.specs.Breaks.{page_counts}
use Rattle.bp_import.proofs.breaks.page_counts.Given as goal

abbrev pub invariant-loop-line : goal.invariant-loop-line
invariant-loop-line l = l.counts.items ++ page_counts l.rest ≡ page_counts l.fn.lines

abbrev pub decreases-loop-line : goal.decreases-loop-line
decreases-loop-line l = length l.rest
