use Rattle.std.proofs.Common.{◌≡◌, length, sym, ap, ◌∙◌, arith, true}
use Rattle.std.proofs.lemmas.List.{length-map}
use Rattle.bp_looks.specs.Hits.{term_of}
use Rattle.bp_looks.specs.Terms.{are_terms}
use Rattle.bp_looks.proofs.PartLemmas.{doc-first, terms-few}
use Rattle.bp_looks.proofs.found.find.Goals as goal

pub find_parts-requires-clause-from : goal.find_parts-requires-clause-from
find_parts-requires-clause-from c =
    doc-first c.args.tables.now.matter c.args.from.0 _ c.know_valid.ensures
    (sym c.doc_pages.ensures ∙ c.in-Some.is)

pub find_parts-requires-clause-terms : goal.find_parts-requires-clause-terms
find_parts-requires-clause-terms c =
    let good : are_terms c.args.terms.now ≡ true = cc (c.are_terms.ensures) in
    let few = terms-few c.args.terms.now good in
    omega (
      arith,
      few,
      ap length c.in_ok-letters.ensures,
      ap length c.as_slice.ensures.value,
      length-map c.in_ok-letters.letters.items term_of,
    )
