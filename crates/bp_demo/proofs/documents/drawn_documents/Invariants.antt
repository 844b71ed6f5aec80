use Rattle.std.proofs.Common.{◌≡◌}
use Rattle.bp_demo.specs.Documents.{pages_drawn}
use Rattle.bp_demo.proofs.documents.drawn_documents.Given as goal

-- the first page and so many more
abbrev pub invariant-loop-added : goal.invariant-loop-added
invariant-loop-added l = l.drawing ≡ pages_drawn l.seed l.added
