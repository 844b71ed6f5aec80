use Rattle.std.proofs.Common.{◌≡◌, map, take}
use Rattle.bp_rules.proofs.views.shown_held.Given as goal

-- those so far
abbrev pub invariant-loop-placed : goal.invariant-loop-placed
invariant-loop-placed l = l.shown.items ≡ map (λ placed. placed.row) (take l.placed-index l.held)
