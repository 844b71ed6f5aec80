use Rattle.std.proofs.Common.{◌≡◌, ◌-◌}
use Rattle.bp_tiff.specs.Layout.{are_inside}
use Rattle.bp_tiff.proofs.layout.strips_are_inside.Given as goal

abbrev pub invariant-loop-k : goal.invariant-loop-k
invariant-loop-k l =
    are_inside l.bytes l.directory l.strips (l.strips.count - l.k) l.k ≡ are_inside l.bytes l.directory l.strips l.strips.count 0
