use Rattle.std.proofs.Common.{length}
use Rattle.bp_press.proofs.GatherLemmas.{AreLinesAfter}
use Rattle.bp_press.proofs.load_files.opt_list.Given as goal

abbrev pub invariant-loop-item : goal.invariant-loop-item
invariant-loop-item g l = AreLinesAfter l.production (g.P.Shows.matter l.shown) l.production.items l.place l.rest l.lines.items

abbrev pub decreases-loop-item : goal.decreases-loop-item
decreases-loop-item g l = length l.rest
