use Rattle.std.proofs.Common.{◌≡◌, map, take}
use Rattle.bp_looks.specs.Values.{value_row}
use Rattle.bp_looks.proofs.values.values_of.Given as goal

-- those so far
abbrev pub invariant-loop-field : goal.invariant-loop-field
invariant-loop-field l =
    l.values.items ≡ map (value_row l.tables.matter l.row) (take l.field-index l.field-items)
