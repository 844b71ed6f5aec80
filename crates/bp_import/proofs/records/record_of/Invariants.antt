use Rattle.std.proofs.Common.{◌≡◌, ◌++◌, length, drop, reverse, vec_len}
use Rattle.bp_import.specs.Columns.{is_begattach}
use Rattle.bp_import.specs.Records.{field_cells}
use Rattle.bp_import.proofs.records.record_of.Given as goal
use Rattle.bp_load.specs.Documents.{cell_under, is_begdoc}

-- what the cells say that were taken
abbrev pub invariant-loop-cell : goal.invariant-loop-cell
invariant-loop-cell l =
    let columns = drop (length l.left) l.fn.columns in
    let row = drop (length l.left) l.fn.row in
    record {
      even : length l.cells.items ≡ length l.left;
      all_columns : l.left ++ columns ≡ l.fn.columns;
      all_cells : l.cells.items ++ row ≡ l.fn.row;
      id : l.id ≡ cell_under is_begdoc columns row;
      attach : l.attach ≡ cell_under is_begattach columns row;
      values : reverse l.values.items ≡ field_cells columns row;
    }

abbrev pub decreases-loop-cell : goal.decreases-loop-cell
decreases-loop-cell l = vec_len l.cells
