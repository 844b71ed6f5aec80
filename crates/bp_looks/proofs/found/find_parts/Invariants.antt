use Rattle.std.proofs.Common.{◌≡◌, ◌+◌, drop}
use Rattle.bp_looks.specs.Found.{found_of, told_so_far, walk}
use Rattle.bp_looks.specs.Hits.{terms_of}
use Rattle.bp_looks.specs.Parts.{documents_of, parts_in}
use Rattle.bp_looks.proofs.found.find_parts.Given as goal

-- what is found is what the search finds that goes on with the documents that are left
abbrev pub invariant-loop-before : goal.invariant-loop-before
invariant-loop-before l =
    found_of l.tables.matter (terms_of l.terms) l.fn.from.0 l.page
    ≡ told_so_far (walk (terms_of l.terms) l.progress.hits.items l.progress.taken
    (parts_in (l.before + 1) l.first (drop l.before (documents_of l.tables.matter))))
