use Rattle.std.proofs.Common.{◌≡◌, ◌++◌, take}
use Rattle.bp_rules.specs.ImportRows.{places_of}
use Rattle.bp_rules.proofs.import_rows.push_places.Given as goal

abbrev pub invariant-loop-row : goal.invariant-loop-row
invariant-loop-row l = l.places.items ≡ l.initial.places.items ++ places_of l.names (take l.row-index l.fields)
