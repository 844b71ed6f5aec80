use Rattle.std.proofs.Common.{◌≡◌, map, take}
use Rattle.bp_rules.specs.ImportRows.{value_at}
use Rattle.bp_rules.proofs.import_rows.values_at.Given as goal

abbrev pub invariant-loop-place : goal.invariant-loop-place
invariant-loop-place l = l.list.items ≡ map (value_at l.values) (take l.place-index l.places)
