use Rattle.std.proofs.Common.{length}
use Rattle.bp_core.proofs.DifferLemmas.{Seen}
use Rattle.bp_core.proofs.differing.all_differ.Given as goal

abbrev pub invariant-loop-first : goal.invariant-loop-first
invariant-loop-first g l = Seen g.L.UniqueText.text_of g.L.UniqueText.coded g.L.UniqueText.decoded l.rows l.rest l.seen

abbrev pub decreases-loop-first : goal.decreases-loop-first
decreases-loop-first g l = length l.rest
