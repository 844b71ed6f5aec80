use Rattle.std.proofs.Common.{◌≡◌, ◌++◌, All, length, map}
use Rattle.std.specs.List.{Contains}
use Rattle.bp_press.specs.Contents.{ground_of, value_in_column}
use Rattle.bp_press.proofs.load_rows.add_values.Given as goal

-- the values so far, with those in the fields that are left, are those in all fields
abbrev pub invariant-loop-name : goal.invariant-loop-name
invariant-loop-name g l =
    let value = value_in_column (g.P.Shows.matter l.shown) l.item (ground_of l.item.treatment) in
    record {
      so_far : l.row.items ++ map value l.rest ≡ l.initial.row.items ++ map value l.production.request.fields;
      chosen : All (Contains l.production.request.fields) l.rest;
    }

abbrev pub decreases-loop-name : goal.decreases-loop-name
decreases-loop-name g l = length l.rest
