use Rattle.std.proofs.Common.{◌-◌, length}
use Rattle.bp_press.proofs.GatherLemmas.{AreRowsAfter}
use Rattle.bp_press.proofs.load_files.dat_rows.Given as goal

abbrev pub invariant-loop-item : goal.invariant-loop-item
invariant-loop-item g l = AreRowsAfter l.production (g.P.Shows.matter l.shown) (length l.firsts - 1) l.place l.rest l.rows.items

abbrev pub decreases-loop-item : goal.decreases-loop-item
decreases-loop-item g l = length l.rest
