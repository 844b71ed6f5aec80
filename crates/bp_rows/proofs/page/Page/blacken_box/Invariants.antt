use Rattle.std.proofs.Common.{◌≡◌, [], ◌∷◌}
use Rattle.bp_rows.specs.Burned.{burned}
use Rattle.bp_rows.proofs.page.Page.blacken_box.Given as goal

-- the page is burned with the first rows of the box
abbrev pub invariant-loop-i : goal.invariant-loop-i
invariant-loop-i l = l.self ≡ burned l.initial.self (record l.area { height = l.i } ∷ [])
