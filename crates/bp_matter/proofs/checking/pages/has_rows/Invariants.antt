use Rattle.std.proofs.Common.{◌≡◌, ◌≤◌, ◌+◌, length}
use Rattle.bp_matter.specs.ValidPages.{has_rows}
use Rattle.bp_matter.proofs.checking.pages.has_rows.Given as goal

abbrev pub invariant-loop-left : goal.invariant-loop-left
invariant-loop-left g l = record {
  test : has_rows g.T.Keyed.key_of l.count l.first l.rows ≡ has_rows g.T.Keyed.key_of l.left l.key l.rest;
  enough : l.count + length l.rest ≤ l.left + length l.rows;
  small : l.key + l.left ≤ l.first + l.count;
}

abbrev pub decreases-loop-left : goal.decreases-loop-left
decreases-loop-left g l = l.left
