use Rattle.std.proofs.Common.{◌≡◌, map, take}
use Rattle.bp_looks.specs.Productions.{kept_view}
use Rattle.bp_looks.proofs.productions.see_productions.Given as goal

-- those so far
abbrev pub invariant-loop-i : goal.invariant-loop-i
invariant-loop-i l = l.views.items ≡ map kept_view (take l.i l.rows)
