use Rattle.std.proofs.Common.{◌≡◌, map, take}
use Rattle.serde_json.specs.View.{view}
use Rattle.bp_web.specs.Values.{person_data}
use Rattle.bp_web.proofs.values.people_value.Given as goal

-- the values so far
abbrev pub invariant-loop-row : goal.invariant-loop-row
invariant-loop-row l = map view l.values.items ≡ map person_data (take l.row-index l.rows)
