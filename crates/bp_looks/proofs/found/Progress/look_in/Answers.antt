use Rattle.std.proofs.Common.{◌≡◌, ◌<◌, ◌+◌, List, ◌++◌, Option, Some, length, drop, sym, ap, ◌∙◌, arith, [], get_or}
use Rattle.std.specs.Option.{option_copied}
use Rattle.std.proofs.lemmas.List.{drop_all, drop_more}
use Rattle.bp_matter.specs.LookUps.{doc_with}
use Rattle.bp_matter.specs.declared.rows.DocRow.{DocRow}
use Rattle.bp_matter.specs.declared.looks.Hit.{Hit}
use Rattle.bp_looks.specs.declared.hits.Spot.{Spot}
use Rattle.bp_looks.specs.Found.{hits_in, walk}
use Rattle.bp_looks.specs.Hits.{terms_of}
use Rattle.bp_looks.specs.Parts.{Part, PartRows, document_rows, part_at, parts_of, rows_of_parts}
use Rattle.bp_looks.proofs.PartLemmas.{length-rows}
use Rattle.bp_looks.proofs.WalkLemmas.{parts-step, walk-full, walk-take}
use Rattle.bp_looks.proofs.found.Progress.look_in.Goals as goal

pub returns-then-is_full-clause-stopped : goal.returns-then-is_full-clause-stopped
returns-then-is_full-clause-stopped c = λ more.
    c.loop-page.invariant more
    ∙ walk-full (terms_of c.args.terms.now) c.loop-page.self.hits.items c.loop-page.self.taken
    (parts_of c.args.doc.0 c.loop-page.page
    (drop c.loop-page.page (document_rows c.args.tables.now.matter c.args.doc.0)) ++ more)
    (sym c.is_full.ensures ∙ c.if-is_full.true)

pub returns-then-is_full-clause-inside : goal.returns-then-is_full-clause-inside
returns-then-is_full-clause-inside c =
    let m = c.args.tables.now.matter in
    let found : doc_with c.args.doc.0 m ≡ Some c.in-Some.row.now =
    sym c.doc_with.ensures ∙ ap option_copied c.in-Some.is in
    let many : length (document_rows m c.args.doc.0) ≡ c.in-Some.row.now.pages + 1 =
    ap (λ (o : Option DocRow). length (rows_of_parts m c.args.doc.0 o)) found
    ∙ length-rows m c.in-Some.row.now c.args.doc.0 in
    omega (arith, many)

pub loop-page-preserved : goal.loop-page-preserved
loop-page-preserved c = λ more.
    let m = c.args.tables.now.matter in
    let doc = c.args.doc.0 in
    let ts = terms_of c.args.terms.now in
    let page = c.loop-page.page in
    let parts = document_rows m doc in
    let part : Part = part_at m doc page in
    let later = parts_of doc (page + 1) (drop (page + 1) parts) ++ more in
    let found : doc_with doc m ≡ Some c.in-Some.row.now =
    sym c.doc_with.ensures ∙ ap option_copied c.in-Some.is in
    let many : length parts ≡ c.in-Some.row.now.pages + 1 =
    ap (λ (o : Option DocRow). length (rows_of_parts m doc o)) found ∙ length-rows m c.in-Some.row.now doc in
    let within : page < length parts = omega (arith, many) in
    let here = drop_more parts page [] within in
    let added : c.add_part.new.hits.items ≡ c.loop-page.self.hits.items ++ hits_in ts part =
    c.in_ok-add_part.ensures
    ∙ ap (λ (s : Spot). c.loop-page.self.hits.items ++ hits_in ts (part_at m s.doc.0 s.page)) c.spot_of-spot.ensures in
    c.loop-page.invariant more
    ∙ (ap (λ (l : List Part). walk ts c.loop-page.self.hits.items c.loop-page.self.taken (l ++ more))
    (parts-step doc page parts (get_or parts page []) here)
    ∙ (walk-take ts c.loop-page.self.hits.items c.loop-page.self.taken part later
    (sym c.is_full.ensures ∙ c.if-is_full.false)
    ∙ ap (λ (l : List Hit). walk ts l (c.loop-page.self.taken + 1) later) (sym added)))

pub returns-clause-past : goal.returns-clause-past
returns-clause-past c = λ more.
    let m = c.args.tables.now.matter in
    let doc = c.args.doc.0 in
    let ts = terms_of c.args.terms.now in
    let page = c.loop-page.page in
    let parts = document_rows m doc in
    let found : doc_with doc m ≡ Some c.in-Some.row.now =
    sym c.doc_with.ensures ∙ ap option_copied c.in-Some.is in
    let many : length parts ≡ c.in-Some.row.now.pages + 1 =
    ap (λ (o : Option DocRow). length (rows_of_parts m doc o)) found ∙ length-rows m c.in-Some.row.now doc in
    let none : drop page parts ≡ [] = drop_all page parts (omega (arith, many)) in
    c.loop-page.invariant more
    ∙ ap (λ (l : List PartRows). walk ts c.loop-page.self.hits.items c.loop-page.self.taken
    (parts_of doc page l ++ more)) none
