use Rattle.std.proofs.Common.{◌≡◌, take}
use Rattle.bp_matter.proofs.copies.copy_items.Given as goal

-- those so far
abbrev pub invariant-loop-item : goal.invariant-loop-item
invariant-loop-item l = l.copies.items ≡ take l.item-index l.item-items
