use Rattle.std.proofs.Common.{◌≡◌, ◌++◌, map, Ok}
use Rattle.std.specs.Vec.Iter.{into_iter_items}
use Rattle.bp_press.proofs.strips.all_strips.Given as goal

-- the strips so far, with what is still to be looked at, are all that was made
abbrev pub invariant-loop-strip : goal.invariant-loop-strip
invariant-loop-strip l = map Ok l.strips.items ++ into_iter_items l.strip-iterator ≡ l.fn.made.items
