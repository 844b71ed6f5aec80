use Rattle.std.proofs.Common.{length, take, vec_len}
use Rattle.bp_import.specs.Batch.{docs_of}
use Rattle.bp_import.specs.Breaks.{cut}
use Rattle.bp_import.proofs.DocumentLemmas.{DocsMade}
use Rattle.bp_import.proofs.documents.docs_with_pages.Given as goal

-- the documents so far
abbrev pub invariant-loop-doc : goal.invariant-loop-doc
invariant-loop-doc l =
    let n = length l.left.items in
    DocsMade l.left.items (take n l.parents) (take n l.counts) l.pages.items l.made.items (docs_of l.fn.docs.items l.fn.parents (cut l.fn.counts l.fn.pages.items))

abbrev pub decreases-loop-doc : goal.decreases-loop-doc
decreases-loop-doc l = vec_len l.left
