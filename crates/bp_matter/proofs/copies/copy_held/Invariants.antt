use Rattle.std.proofs.Common.{◌≡◌, take}
use Rattle.bp_matter.proofs.copies.copy_held.Given as goal

-- those so far
abbrev pub invariant-loop-row : goal.invariant-loop-row
invariant-loop-row l = l.copies.items ≡ take l.row-index l.row-items
