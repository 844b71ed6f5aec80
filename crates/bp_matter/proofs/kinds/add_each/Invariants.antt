use Rattle.std.proofs.Common.{◌≡◌, ◌++◌, map, length}
use Rattle.std.specs.List.{list_all}
use Rattle.std.specs.Prelude.{IsTrue}
use Rattle.bp_shelves.specs.Shelves.{rows_on}
use Rattle.bp_matter.proofs.kinds.add_each.Given as goal

-- the rows of the shelves so far are added
abbrev pub invariant-loop-shelf : goal.invariant-loop-shelf
invariant-loop-shelf g l = record {
  added : l.kept.items ++ map g.T.Kind.kept_of (rows_on l.rest)
      ≡ l.initial.kept.items ++ map g.T.Kind.kept_of (rows_on l.fn.shelves);
  written : IsTrue (list_all g.T.Kind.is_written (rows_on l.rest));
}

abbrev pub decreases-loop-shelf : goal.decreases-loop-shelf
decreases-loop-shelf g l = length l.rest
