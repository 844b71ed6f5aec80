use Rattle.std.proofs.Common.{◌≡◌, drop}
use Rattle.bp_matter.specs.Written.{last_number}
use Rattle.bp_matter.proofs.reading.last_number.Given as goal

abbrev pub invariant-loop-item : goal.invariant-loop-item
invariant-loop-item l = last_number 0 l.items ≡ last_number l.last (drop l.item-index l.items)
