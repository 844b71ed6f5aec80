use Rattle.std.proofs.Common.{◌≡◌, ◌++◌}
use Rattle.std.specs.Vec.Iter.{into_iter_items}
use Rattle.bp_demo.proofs.drawn.DrawnDoc.into_doc.Given as goal

-- the pages so far, with what is still to be looked at, are all pages
abbrev pub invariant-loop-page : goal.invariant-loop-page
invariant-loop-page l = l.done.items ++ into_iter_items l.page-iterator ≡ l.fn.self.pages
