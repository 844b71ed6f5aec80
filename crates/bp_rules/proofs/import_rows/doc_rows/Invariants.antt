use Rattle.std.proofs.Common.{◌≡◌, ◌≤◌, ◌+◌, ◌++◌, length}
use Rattle.std.specs.Prelude.{IsTrue, nat_le}
use Rattle.std.specs.List.{list_all}
use Rattle.bp_matter.specs.Batches.{pages_in}
use Rattle.bp_rules.specs.ImportRows.{doc_rows}
use Rattle.bp_rules.proofs.import_rows.doc_rows.Given as goal

abbrev pub invariant-loop-doc : goal.invariant-loop-doc
invariant-loop-doc l = record {
  rows : doc_rows l.before l.batch l.places (l.before + 1) l.docs ≡ l.rows.items ++ doc_rows l.before l.batch l.places (l.number + 1) l.rest;
  few : l.number + length l.rest ≤ 10000;
  parents : IsTrue (list_all (λ doc. nat_le (l.before + doc.parent) 10000) l.rest);
  pages : pages_in l.rest ≤ 20000;
}

abbrev pub decreases-loop-doc : goal.decreases-loop-doc
decreases-loop-doc l = length l.rest
