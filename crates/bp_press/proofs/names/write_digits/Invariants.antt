use Rattle.std.proofs.Common.{◌≡◌, ◌++◌, drop, length}
use Rattle.bp_bates.specs.Labels.{padded}
use Rattle.bp_press.proofs.names.write_digits.Given as goal

-- the digits to come, before those that are written
abbrev pub invariant-loop-place : goal.invariant-loop-place
invariant-loop-place l = padded l.place l.rest ++ drop l.place l.into ≡ padded (length l.fn.into) l.fn.number
