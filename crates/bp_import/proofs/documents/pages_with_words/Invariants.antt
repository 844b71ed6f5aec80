use Rattle.std.proofs.Common.{map, vec_len}
use Rattle.bp_import.specs.Documents.{with_words}
use Rattle.bp_import.proofs.DocumentLemmas.{PagesMade}
use Rattle.bp_import.proofs.documents.pages_with_words.Given as goal

-- the pages so far
abbrev pub invariant-loop-page : goal.invariant-loop-page
invariant-loop-page l = PagesMade l.pages.items l.lists.items l.made.items (with_words l.fn.pages (map (λ list. list.items) l.fn.lists.items))

abbrev pub decreases-loop-page : goal.decreases-loop-page
decreases-loop-page l = vec_len l.pages
