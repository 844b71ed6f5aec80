use Rattle.std.proofs.Common.{◌≡◌, ◌++◌, length}
use Rattle.std.specs.Vec.Iter.{into_iter_items, into_iter_len}
use Rattle.bp_shelves.proofs.shelves.Shelves.from_rows.Given as goal

-- the rows so far stand on their shelves
abbrev pub invariant-loop-row : goal.invariant-loop-row
invariant-loop-row g l = record {
  whole : l.shelves.rows ++ into_iter_items l.row-iterator ≡ l.fn.rows.items;
  left : into_iter_len l.row-iterator ≡ length (into_iter_items l.row-iterator);
}
