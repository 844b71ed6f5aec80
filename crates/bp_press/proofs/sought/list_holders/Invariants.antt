use Rattle.std.proofs.Common.{length}
use Rattle.bp_press.proofs.SoughtLemmas.{AreItemsSought}
use Rattle.bp_press.proofs.sought.list_holders.Given as goal

abbrev pub invariant-loop-item : goal.invariant-loop-item
invariant-loop-item g l = AreItemsSought l.production (g.P.Shows.matter l.shown) l.path l.place l.rest l.initial.list.items l.list.items

abbrev pub decreases-loop-item : goal.decreases-loop-item
decreases-loop-item g l = length l.rest
