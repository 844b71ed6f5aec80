use Rattle.std.proofs.Common.{◌≡◌, ◌∙◌, ◌+◌, ◌<◌, ◌≤◌, Ok, Err, List, ℕ, length, map, sym, ap, subst, arith, rules}
use Rattle.std.specs.Prelude.{IfSome}
use Rattle.std.proofs.lemmas.Result.{err_from_is_err_and}
use Rattle.bp_matter.specs.Batches.{BatchShown}
use Rattle.bp_import.specs.Batch.{docs_of}
use Rattle.bp_import.specs.Breaks.{cut, page_counts}
use Rattle.bp_import.specs.Documents.{with_words, words_of_lines}
use Rattle.bp_import.specs.Scans.{GivesImages}
use Rattle.bp_import.specs.WordPages.{are_places, places_of, words_inside}
use Rattle.bp_load.proofs.CountLemmas.{opt_few}
use Rattle.bp_import.proofs.CountLemmas.{words_few}
use Rattle.bp_import.proofs.FinalLemmas.{batch_holds, places_good, told_batch, told_images_refused, told_word_outside}
use Rattle.bp_import.proofs.StepLemmas.{inside_calm}
use Rattle.bp_import.proofs.batch.read_batch.Goals as goal

pub read_images-requires : goal.read_images-requires
read_images-requires g c =
    let plan = c.in_ok-plan.ensures.planned in
    omega (arith, ap length c.as_slice.ensures, opt_few plan.opt c.in_ok-plan.plan.lines plan.lines, plan.short_opt)

pub returns-in_err-images-clause-told : goal.returns-in_err-images-clause-told
returns-in_err-images-clause-told g c =
    let p = err_from_is_err_and c.from_residual-in_err-images.result c.from_residual-in_err-images.ensures.1 in
    let given = c.in_err-images.field-0.0 in
    let name = c.args.name.now in
    let plan = c.in_ok-plan.plan in
    let bad = subst (λ v. IfSome v.files (λ files. GivesImages files name c.as_slice.result.now plan.digest (Err given))) c.in_ok-plan.ensures.after c.in_err-images.ensures.told in
    let bad' = subst (λ ls. IfSome (g.S.Source.shows c.args.source.now).files (λ files. GivesImages files name ls plan.digest (Err given))) c.as_slice.ensures bad in
    rw (p.1, p.2) (told_images_refused _ name plan given c.in_ok-plan.ensures.planned bad' BatchShown (λ batch. batch))

pub words_inside-requires-clause-few : goal.words_inside-requires-clause-few
words_inside-requires-clause-few g c =
    let plan = c.in_ok-plan.ensures.planned in
    omega (arith, ap length c.as_slice-rows.ensures, words_few plan.csv c.in_ok-plan.plan.placed.words plan.words, plan.short_csv)

pub words_inside-requires-clause-even : goal.words_inside-requires-clause-even
words_inside-requires-clause-even g c =
    let plan = c.in_ok-plan.plan in
    ap length c.deref.ensures.value ∙ (places_good plan.lines plan.placed.words plan.placed.places.items c.in_ok-plan.ensures.planned.places).1
    ∙ ap length (sym c.as_slice-rows.ensures)

pub words_inside-requires-clause-placed : goal.words_inside-requires-clause-placed
words_inside-requires-clause-placed g c =
    let plan = c.in_ok-plan.plan in
    ap (λ ps. are_places (length ps) c.deref.result.now) c.as_slice-2.ensures
    ∙ ap (λ n. are_places n c.deref.result.now) (c.in_ok-images.ensures.count ∙ ap length c.as_slice.ensures)
    ∙ ap (are_places (length plan.lines)) c.deref.ensures.value
    ∙ (places_good plan.lines plan.placed.words plan.placed.places.items c.in_ok-plan.ensures.planned.places).0

pub returns-in-Err-clause-after : goal.returns-in-Err-clause-after
returns-in-Err-clause-after g c =
    let plan = c.in_ok-plan.plan in
    let planned = c.in_ok-plan.ensures.planned in
    let rows = c.as_slice-rows.result.now in
    let pages = c.as_slice-2.result.now in
    let placed = ap (λ rs. places_of plan.lines rs) c.as_slice-rows.ensures ∙ planned.places ∙ ap Ok (sym c.deref.ensures.value) in
    let even = sym (ap length c.as_slice-2.ensures ∙ c.in_ok-images.ensures.count ∙ ap length c.as_slice.ensures) in
    let bad = c.in-Err.ensures plan.lines placed even in
    c.in_ok-images.ensures.after ∙ c.in_ok-plan.ensures.after ∙ sym (inside_calm plan.lines pages rows c.in-Err.rule bad (g.S.Source.shows c.args.source.now))

pub invariant_of-result : goal.invariant_of-result
invariant_of-result g c =
    let plan = c.in_ok-plan.plan in
    let planned = c.in_ok-plan.ensures.planned in
    let images = c.in_ok-images.images in
    let rows = c.as_slice-rows.result.now in
    let name : c.in_ok-name.name ≡ c.args.name.now = search rules in
    let long : length images.digest ≡ 32 = search rules in
    let even = c.in_ok-images.ensures.count ∙ ap length c.as_slice.ensures in
    let placed = ap (λ rs. places_of plan.lines rs) c.as_slice-rows.ensures ∙ planned.places ∙ ap Ok (sym c.deref.ensures.value) in
    let inside = c.in_default.ensures plan.lines placed (sym (ap length c.as_slice-2.ensures ∙ even)) in
    let inside' = ap (λ ps. words_inside plan.lines ps rows) (sym c.as_slice-2.ensures) ∙ inside in
    let inside'' = ap (words_inside plan.lines images.pages) (sym c.as_slice-rows.ensures) ∙ inside' in
    let docs = c.in_ok-docs.ensures ∙ ap (λ ls. docs_of plan.docs.items plan.placed.parents.items (cut (page_counts ls) (with_words images.pages (words_of_lines ls plan.placed.words)))) c.as_slice-3.ensures in
    batch_holds (g.S.Source.shows c.args.source.now).files c.args.name.now images.digest plan images.pages (map (λ row. row.word) rows) _ planned long even c.in_ok-images.ensures.fits inside''
    (ap (λ n. record { name = n; digest = images.digest; fields = plan.fields; docs = c.in_ok-docs.docs }) name
    ∙ ap (λ ds. record { name = c.args.name.now; digest = images.digest; fields = plan.fields; docs = ds }) docs)

pub returns-clause-told : goal.returns-clause-told
returns-clause-told g c =
    let plan = c.in_ok-plan.plan in
    let planned = c.in_ok-plan.ensures.planned in
    let images = c.in_ok-images.images in
    let rows = c.as_slice-rows.result.now in
    let name : c.in_ok-name.name ≡ c.args.name.now = search rules in
    let even = c.in_ok-images.ensures.count ∙ ap length c.as_slice.ensures in
    let placed = ap (λ rs. places_of plan.lines rs) c.as_slice-rows.ensures ∙ planned.places ∙ ap Ok (sym c.deref.ensures.value) in
    let inside = c.in_default.ensures plan.lines placed (sym (ap length c.as_slice-2.ensures ∙ even)) in
    let inside' = ap (λ ps. words_inside plan.lines ps rows) (sym c.as_slice-2.ensures) ∙ inside in
    let inside'' = ap (words_inside plan.lines images.pages) (sym c.as_slice-rows.ensures) ∙ inside' in
    let docs = c.in_ok-docs.ensures ∙ ap (λ ls. docs_of plan.docs.items plan.placed.parents.items (cut (page_counts ls) (with_words images.pages (words_of_lines ls plan.placed.words)))) c.as_slice-3.ensures in
    let read = subst (λ v. IfSome v.files (λ files. GivesImages files c.args.name.now c.as_slice.result.now plan.digest (Ok images))) c.in_ok-plan.ensures.after c.in_ok-images.ensures.told in
    let read' = subst (λ ls. IfSome (g.S.Source.shows c.args.source.now).files (λ files. GivesImages files c.args.name.now ls plan.digest (Ok images))) c.as_slice.ensures read in
    told_batch _ c.args.name.now plan images (map (λ row. row.word) rows) _ planned read' inside''
    (ap (λ n. record { name = n; digest = images.digest; fields = plan.fields; docs = c.in_ok-docs.docs }) name
    ∙ ap (λ ds. record { name = c.args.name.now; digest = images.digest; fields = plan.fields; docs = ds }) docs)
