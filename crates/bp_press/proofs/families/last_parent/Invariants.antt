use Rattle.std.proofs.Common.{All, take}
use Rattle.bp_press.specs.Needs.{IsInFamily}
use Rattle.bp_press.proofs.families.last_parent.Given as goal

-- no parent of the items so far is above it
abbrev pub invariant-loop-item : goal.invariant-loop-item
invariant-loop-item l = All (IsInFamily l.last) (take l.item-index l.items)
