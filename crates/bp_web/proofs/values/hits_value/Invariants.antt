use Rattle.std.proofs.Common.{◌≡◌, map, take}
use Rattle.serde_json.specs.View.{view}
use Rattle.bp_web.specs.Values.{hit_data}
use Rattle.bp_web.proofs.values.hits_value.Given as goal

-- the values so far
abbrev pub invariant-loop-hit : goal.invariant-loop-hit
invariant-loop-hit l = map view l.values.items ≡ map hit_data (take l.hit-index l.hits)
