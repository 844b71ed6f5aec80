use Rattle.std.proofs.Common.{◌≡◌, ◌<◌, ◌++◌, ℕ, List, [], OnOk, Option, Some, true, get_or, map, sym, ap, subst, ◌∙◌, arith}
use Rattle.bp_matter.specs.declared.rows.DocRow.{DocRow}
use Rattle.bp_matter.specs.Written.{are_few, is_short}
use Rattle.bp_matter.specs.declared.looks.Hit.{Hit}
use Rattle.bp_looks.specs.declared.hits.Spot.{Spot}
use Rattle.bp_looks.specs.Found.{hits_in, spot_of}
use Rattle.bp_looks.specs.Hits.{hits_of_rows, terms_of}
use Rattle.bp_looks.specs.Parts.{PartRows, page_rows, part_at, rows_of_parts}
use Rattle.bp_looks.specs.Pieces.{pieces_of}
use Rattle.bp_looks.proofs.PartLemmas.{rows-page, values-few}
use Rattle.bp_looks.proofs.found.add_part.Goals as goal

pub add_values-requires-clause-values : goal.add_values-requires-clause-values
add_values-requires-clause-values c =
    subst (λ (l : List (List ℕ)). are_few is_short l ≡ true) (sym c.as_slice.ensures)
    (values-few c.args.tables.now.matter c.args.spot.doc.0 c.args.row.now c.know_valid.ensures c.requires.row)

pub returns-then-spot-eq0 : goal.returns-then-spot-eq0
returns-then-spot-eq0 c =
    let ts = terms_of c.args.terms.now in
    let doc = c.args.spot.doc.0 in
    let m = c.args.tables.now.matter in
    let none : c.args.spot.page ≡ 0 = omega arith in
    let rows : get_or (rows_of_parts m doc (Some c.args.row.now)) c.args.spot.page []
    ≡ map pieces_of c.as_slice.result.now =
    ap (λ (n : ℕ). get_or (rows_of_parts m doc (Some c.args.row.now)) n []) none
    ∙ ap (λ values. map pieces_of values) (sym c.as_slice.ensures) in
    let same : hits_of_rows ts (spot_of doc 0) (map pieces_of c.as_slice.result.now)
    ≡ hits_in ts (part_at m doc c.args.spot.page) =
    ap (λ (n : ℕ). hits_of_rows ts (spot_of doc n) (map pieces_of c.as_slice.result.now)) (sym none)
    ∙ (ap (λ (l : PartRows). hits_of_rows ts (spot_of doc c.args.spot.page) l) (sym rows)
    ∙ ap (λ (o : Option DocRow). hits_of_rows ts (spot_of doc c.args.spot.page)
    (get_or (rows_of_parts m doc o) c.args.spot.page [])) (sym c.requires.row)) in
    subst (λ (l : List Hit). OnOk c.add_values.result
    (c.add_values.new.hits.items ≡ c.args.hits.now.items ++ l)) same c.add_values.ensures

pub returns-else-spot-eq0 : goal.returns-else-spot-eq0
returns-else-spot-eq0 c =
    let ts = terms_of c.args.terms.now in
    let doc = c.args.spot.doc.0 in
    let page = c.args.spot.page in
    let m = c.args.tables.now.matter in
    let above : 0 < page = omega arith in
    let rows : get_or (rows_of_parts m doc (Some c.args.row.now)) page [] ≡ page_rows m doc page =
    rows-page m c.args.row.now doc page above c.requires.page in
    let same : hits_of_rows ts c.args.spot (page_rows m doc page) ≡ hits_in ts (part_at m doc page) =
    ap (λ (s : Spot). hits_of_rows ts s (page_rows m doc page)) c.requires.spot
    ∙ (ap (λ (l : PartRows). hits_of_rows ts (spot_of doc page) l) (sym rows)
    ∙ ap (λ (o : Option DocRow). hits_of_rows ts (spot_of doc page) (get_or (rows_of_parts m doc o) page []))
    (sym c.requires.row)) in
    subst (λ (l : List Hit). OnOk c.add_page.result
    (c.add_page.new.hits.items ≡ c.args.hits.now.items ++ l)) same c.add_page.ensures
