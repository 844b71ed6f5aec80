use Rattle.std.proofs.Common.{◌+◌, ◌<◌, ℕ, [], get_or}
use Rattle.sqlite_trees.specs.Tree.{rowid}
use Rattle.sqlite.specs.Values.{IsInt}
use Rattle.bp_keep_sql.specs.Rowids.{IsBelow}
use Rattle.bp_keep_sql.proofs.rowids.rowids_rise.Given as goal

abbrev pub invariant-loop-at : goal.invariant-loop-at
invariant-loop-at l = record {
  ints : (i : ℕ) → i < l.at → IsInt (rowid (get_or l.lines i []));
  up : (i : ℕ) → i + 1 < l.at → IsBelow (get_or l.lines i []) (get_or l.lines (i + 1) []);
}
