use Rattle.std.proofs.Common.{◌≡◌, ◌++◌, length, map}
use Rattle.std.specs.Prelude.{IsTrue}
use Rattle.std.specs.List.{list_all}
use Rattle.bp_matter.specs.ReadRows.{segment_of}
use Rattle.bp_matter.proofs.kinds.take_rows.Given as goal

abbrev pub invariant-loop-first : goal.invariant-loop-first
invariant-loop-first g l = record {
  values : (segment_of g.T.Kind.read_of l.rows).0 ≡ l.values.items ++ (segment_of g.T.Kind.read_of l.rest).0;
  rest : (segment_of g.T.Kind.read_of l.rows).1 ≡ (segment_of g.T.Kind.read_of l.rest).1;
  parts : l.rows ≡ map g.T.Kind.kept_of l.values.items ++ l.rest;
  written : IsTrue (list_all g.T.Kind.is_written l.values.items);
}

abbrev pub decreases-loop-first : goal.decreases-loop-first
decreases-loop-first g l = length l.rest
