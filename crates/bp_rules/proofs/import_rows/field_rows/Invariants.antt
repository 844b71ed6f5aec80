use Rattle.std.proofs.Common.{◌≡◌, ◌≤◌, ◌+◌, ◌++◌, length}
use Rattle.bp_rules.specs.ImportRows.{field_rows, lacking}
use Rattle.bp_rules.proofs.import_rows.field_rows.Given as goal

abbrev pub invariant-loop-name : goal.invariant-loop-name
invariant-loop-name l = record {
  rows : field_rows (length l.fields + 1) (lacking l.fields l.names) ≡ l.rows.items ++ field_rows (l.number + 1) (lacking l.fields l.rest);
  few : l.number + length (lacking l.fields l.rest) ≤ 64;
}

abbrev pub decreases-loop-name : goal.decreases-loop-name
decreases-loop-name l = length l.rest
