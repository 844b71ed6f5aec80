use Rattle.std.proofs.Common.{◌≡◌, ◌≤◌, ◌+◌, ◌++◌, length}
use Rattle.bp_rules.specs.ImportRows.{of_pages}
use Rattle.bp_rules.proofs.import_rows.push_rows.Given as goal

abbrev pub invariant-loop-page : goal.invariant-loop-page
invariant-loop-page g l = record {
  rows : l.initial.rows.items ++ of_pages g.T.OfPage.row_of l.doc 1 l.pages ≡ l.rows.items ++ of_pages g.T.OfPage.row_of l.doc (l.number + 1) l.rest;
  few : l.number + length l.rest ≤ 20000;
}

abbrev pub decreases-loop-page : goal.decreases-loop-page
decreases-loop-page g l = length l.rest
