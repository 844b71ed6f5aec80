use Rattle.std.proofs.Common.{◌≡◌, ◌++◌, List, drop}
use Rattle.bp_looks.specs.Found.{walk}
use Rattle.bp_looks.specs.Hits.{terms_of}
use Rattle.bp_looks.specs.Parts.{Part, document_rows, parts_of}
use Rattle.bp_looks.proofs.found.Progress.look_in.Given as goal

-- whatever follows, the search goes on with the parts that are left
abbrev pub invariant-loop-page : goal.invariant-loop-page
invariant-loop-page l =
    (more : List Part)
    → walk (terms_of l.terms) l.initial.self.hits.items l.initial.self.taken
    (parts_of l.doc.0 l.first (drop l.first (document_rows l.tables.matter l.doc.0)) ++ more)
    ≡ walk (terms_of l.terms) l.self.hits.items l.self.taken
    (parts_of l.doc.0 l.page (drop l.page (document_rows l.tables.matter l.doc.0)) ++ more)
