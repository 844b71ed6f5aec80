use Rattle.std.proofs.Common.{◌≡◌, map, take}
use Rattle.bp_freeze.proofs.items.boxes_of.Given as goal

-- those so far
abbrev pub invariant-loop-row : goal.invariant-loop-row
invariant-loop-row l = l.boxes.items ≡ map (λ row. row.row) (take l.row-index l.rows)
