use Rattle.std.proofs.Common.{◌≡◌, ◌++◌}
use Rattle.std.specs.Vec.Iter.{into_iter_items}
use Rattle.bp_demo.proofs.drawn.coded_documents.Given as goal

-- the documents so far, with what is still to be looked at, are all documents
abbrev pub invariant-loop-doc : goal.invariant-loop-doc
invariant-loop-doc g l = l.coded.items ++ into_iter_items l.doc-iterator ≡ l.fn.docs.items
