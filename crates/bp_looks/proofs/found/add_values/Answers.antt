use Rattle.std.proofs.Common.{◌≡◌, ◌+◌, ◌++◌, List, drop, map, sym, ap, ◌∙◌, arith, append_assoc}
use Rattle.bp_matter.specs.declared.looks.Hit.{Hit}
use Rattle.bp_looks.specs.declared.hits.Spot.{Spot}
use Rattle.bp_looks.specs.Hits.{hits_of, hits_of_rows, terms_of}
use Rattle.bp_looks.specs.Parts.{PartRows}
use Rattle.bp_looks.specs.Pieces.{pieces_of}
use Rattle.bp_looks.proofs.PartLemmas.{value-few}
use Rattle.bp_looks.proofs.StepLemmas.{drop_map_more}
use Rattle.bp_looks.proofs.found.add_values.Goals as goal

pub add_value_hits-requires-clause-value : goal.add_value_hits-requires-clause-value
add_value_hits-requires-clause-value c =
    value-few c.args.values.now c.loop-i.i c.index-values-i.result c.requires.values (omega arith) c.index-values-i.is

pub loop-i-preserved : goal.loop-i-preserved
loop-i-preserved c =
    let i = c.loop-i.i in
    let ts = terms_of c.args.terms.now in
    let rows = map pieces_of c.args.values.now in
    let spot : Spot = record { doc = c.args.doc; page = 0; field = i + 1 } in
    let later = hits_of_rows ts (record { doc = c.args.doc; page = 0; field = i + 1 + 1 }) (drop (i + 1) rows) in
    let row = pieces_of c.index-values-i.result in
    let here = drop_map_more pieces_of c.args.values.now i c.index-values-i.result (omega arith) c.index-values-i.is in
    let added : c.add_value_hits.new.hits.items ≡ c.loop-i.hits.items ++ hits_of ts spot row =
    cc (c.in_ok-add_value_hits.ensures) in
    ap (λ (l : List Hit). l ++ later) added
    ∙ (append_assoc c.loop-i.hits.items (hits_of ts spot row) later
    ∙ (ap (λ (l : PartRows). c.loop-i.hits.items ++ hits_of_rows ts spot l) (sym here)
    ∙ c.loop-i.invariant))
