use Rattle.std.proofs.Common.{◌≡◌, ◌≤◌, ◌+◌, ◌++◌, length}
use Rattle.bp_matter.specs.Batches.{pages_in}
use Rattle.bp_rules.specs.ImportRows.{of_docs}
use Rattle.bp_rules.proofs.import_rows.rows_of_docs.Given as goal

abbrev pub invariant-loop-doc : goal.invariant-loop-doc
invariant-loop-doc g l = record {
  rows : of_docs g.T.OfPage.row_of (l.before + 1) l.docs ≡ l.rows.items ++ of_docs g.T.OfPage.row_of (l.number + 1) l.rest;
  few : l.number + length l.rest ≤ 10000;
  pages : pages_in l.rest ≤ 20000;
}

abbrev pub decreases-loop-doc : goal.decreases-loop-doc
decreases-loop-doc g l = length l.rest
