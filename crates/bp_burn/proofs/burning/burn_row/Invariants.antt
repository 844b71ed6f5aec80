use Rattle.std.proofs.Common.{◌≡◌, take}
use Rattle.bp_burn.specs.Ink.{in_row, inked}
use Rattle.bp_burn.proofs.burning.burn_row.Given as goal

-- the row has the boxes so far
abbrev pub invariant-loop-area : goal.invariant-loop-area
invariant-loop-area l = l.page ≡ inked l.initial.page (in_row l.row (take l.area-index l.area-items))
