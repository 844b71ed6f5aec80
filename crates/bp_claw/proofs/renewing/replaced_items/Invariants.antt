use Rattle.std.proofs.Common.{◌≡◌, ◌++◌, map}
use Rattle.std.specs.Vec.Iter.{into_iter_items}
use Rattle.bp_claw.specs.Replacement.{replaced_item}
use Rattle.bp_claw.proofs.renewing.replaced_items.Given as goal

-- the items so far, with those that are still to be changed, are all of them changed
abbrev pub invariant-loop-item : goal.invariant-loop-item
invariant-loop-item l = l.changed.items ++ map (replaced_item l.notice) (into_iter_items l.item-iterator) ≡ map (replaced_item l.notice) l.fn.items
