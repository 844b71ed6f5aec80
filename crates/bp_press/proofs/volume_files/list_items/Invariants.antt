use Rattle.std.proofs.Common.{length}
use Rattle.bp_press.proofs.ListLemmas.{AreItemsListed}
use Rattle.bp_press.proofs.volume_files.list_items.Given as goal

abbrev pub invariant-loop-item : goal.invariant-loop-item
invariant-loop-item g l = AreItemsListed l.production (g.P.Shows.matter l.shown) l.production.items l.place l.rest l.initial.list.items l.list.items

abbrev pub decreases-loop-item : goal.decreases-loop-item
decreases-loop-item g l = length l.rest
