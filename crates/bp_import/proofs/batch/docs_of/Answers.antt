use Rattle.std.proofs.Common.{◌≡◌, ◌∙◌, Ok, List, ℕ, length, map, sum, sym, ap, subst, arith}
use Rattle.std.proofs.lemmas.Result.{IfOk-weaker}
use Rattle.bp_matter.specs.declared.batches.BatchDoc.{BatchDoc}
use Rattle.bp_import.specs.Batch.{docs_of}
use Rattle.bp_import.specs.Breaks.{cut, page_counts}
use Rattle.bp_import.specs.Documents.{with_words, words_of_lines}
use Rattle.bp_import.specs.WordPages.{are_places, places_of}
use Rattle.bp_import.proofs.BatchFactLemmas.{pages_even}
use Rattle.bp_import.proofs.EachLemmas.{each_one}
use Rattle.bp_import.proofs.FinalLemmas.{places_good}
use Rattle.bp_import.proofs.OrderFactLemmas.{all_pages, docs_fit, lines_differ, parents_fit}
use Rattle.bp_import.proofs.batch.docs_of.Goals as goal

pub words_by_place-requires-clause-even : goal.words_by_place-requires-clause-even
words_by_place-requires-clause-even c =
    let placed = c.args.placed in
    ap length c.deref.ensures.value ∙ (places_good c.args.lines.now placed.words placed.places.items c.requires.places).1

pub words_by_place-requires-clause-placed : goal.words_by_place-requires-clause-placed
words_by_place-requires-clause-placed c =
    let placed = c.args.placed in
    ap (λ n. are_places n c.deref.result.now) (c.len.ensures ∙ c.requires.pages) ∙ ap (are_places (length c.args.lines.now)) c.deref.ensures.value
    ∙ (places_good c.args.lines.now placed.words placed.places.items c.requires.places).0

pub docs_with_pages-requires-clause-parents : goal.docs_with_pages-requires-clause-parents
docs_with_pages-requires-clause-parents c =
    ap length c.deref-2.ensures.value ∙ (parents_fit c.args.docs.items c.args.placed.parents.items c.requires.parents).even

pub docs_with_pages-requires-clause-counts : goal.docs_with_pages-requires-clause-counts
docs_with_pages-requires-clause-counts c =
    let lines = c.args.lines.now in
    ap length (c.deref-3.ensures.value ∙ c.in_ok-counts.ensures)
    ∙ (docs_fit (λ _. Unit {0}) c.args.docs.items lines (each_one (λ _. Unit {0}) lines (λ _. tt)) c.requires.breaks).counts

-- the words of the pages, by the lines
pub docs_with_pages-requires-clause-all : goal.docs_with_pages-requires-clause-all
docs_with_pages-requires-clause-all c =
    let lines = c.args.lines.now in
    let pages = c.args.pages in
    let rows = c.args.placed.words in
    let words = c.in_ok-lists.ensures.words lines (c.requires.places ∙ ap Ok (sym c.deref.ensures.value)) (lines_differ c.args.docs.items lines c.requires.breaks) (sym (c.len.ensures ∙ c.requires.pages)) in
    ap sum (c.deref-3.ensures.value ∙ c.in_ok-counts.ensures)
    ∙ all_pages c.args.docs.items lines c.requires.breaks
    ∙ sym (pages_even lines pages rows c.requires.pages)
    ∙ sym (ap length (c.in_ok-pages.ensures ∙ ap (with_words pages) words))

pub returns : goal.returns
returns c =
    let lines = c.args.lines.now in
    let docs = c.args.docs.items in
    let parents = c.args.placed.parents.items in
    let pages = c.args.pages in
    let rows = c.args.placed.words in
    let words = c.in_ok-lists.ensures.words lines (c.requires.places ∙ ap Ok (sym c.deref.ensures.value)) (lines_differ docs lines c.requires.breaks) (sym (c.len.ensures ∙ c.requires.pages)) in
    IfOk-weaker {X = List BatchDoc} c.docs_with_pages.result
    (λ made. made ≡ docs_of docs c.deref-2.result.now (cut c.deref-3.result.now c.in_ok-pages.pages.items))
    (λ made. made ≡ docs_of docs parents (cut (page_counts lines) (with_words pages (words_of_lines lines rows))))
    (λ made is. is
    ∙ ap (λ ps. docs_of docs ps (cut c.deref-3.result.now c.in_ok-pages.pages.items)) c.deref-2.ensures.value
    ∙ ap (λ cs. docs_of docs parents (cut cs c.in_ok-pages.pages.items)) (c.deref-3.ensures.value ∙ c.in_ok-counts.ensures)
    ∙ ap (λ ps. docs_of docs parents (cut (page_counts lines) ps)) (c.in_ok-pages.ensures ∙ ap (with_words pages) words))
    c.docs_with_pages.ensures
