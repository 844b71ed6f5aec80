use Rattle.std.proofs.Common.{◌≡◌, take}
use Rattle.bp_burn.specs.Ink.{above, inked}
use Rattle.bp_burn.proofs.burning.burn_boxes.Given as goal

-- the first rows have the boxes so far
abbrev pub invariant-loop-area : goal.invariant-loop-area
invariant-loop-area l = l.page ≡ inked l.initial.page (above l.rows (take l.area-index l.boxes))
