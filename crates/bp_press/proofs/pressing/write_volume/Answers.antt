use Rattle.std.proofs.Common.{rules, ap, sym, ◌+◌, ◌∙◌, length, refl}
use Rattle.bp_outside.specs.declared.refusals.FolderRefusal.TheVariants.{OutOfMemory}
use Rattle.bp_press.proofs.ItemLemmas.{on_err}
use Rattle.bp_press.proofs.PressLemmas.{few_files, files_cut, gathered, lent_listed, manifest_cut, nothing_pressed, some_listed, told-is, volume_end}
use Rattle.bp_press.proofs.pressing.write_volume.Goals as goal

pub add_listed-requires-clause-some : goal.add_listed-requires-clause-some
add_listed-requires-clause-some g c κs within = some_listed c.args.production.now (g.P.Shows.matter c.args.shown.now) _ (lent_listed c.args.production.now (g.P.Shows.matter c.args.shown.now) _ _ _ c.as_slice.ensures.value c.in_ok-list.ensures)

pub add_listed-requires-clause-made : goal.add_listed-requires-clause-made
add_listed-requires-clause-made g c κs within = (lent_listed c.args.production.now (g.P.Shows.matter c.args.shown.now) _ _ _ c.as_slice.ensures.value c.in_ok-list.ensures).made

pub file_count-requires : goal.file_count-requires
file_count-requires g c =
    few_files c.args.production.now (g.P.Shows.matter c.args.shown.now) _ c.requires.pressed (lent_listed c.args.production.now (g.P.Shows.matter c.args.shown.now) _ _ _ c.as_slice-3.ensures.value c.in_ok-list.ensures)

pub returns-in_err-list-clause-cut : goal.returns-in_err-list-clause-cut
returns-in_err-list-clause-cut g c =
    on_err c.from_residual.result OutOfMemory _ (nothing_pressed c.args.production.now (g.P.Shows.matter c.args.shown.now) _ OutOfMemory refl) (search rules)

pub returns-in_err-add_listed-clause-cut : goal.returns-in_err-add_listed-clause-cut
returns-in_err-add_listed-clause-cut g c =
    let lent = lent_listed c.args.production.now (g.P.Shows.matter c.args.shown.now) _ _ _ c.as_slice.ensures.value c.in_ok-list.ensures in
    on_err c.from_residual-in_err-add_listed.result c.in_err-add_listed.field-0.0 _
    (files_cut c.args.production.now (g.P.Shows.matter c.args.shown.now) _ _ _ _ lent c.in_err-add_listed.ensures.cut) (search rules)

pub returns-in_err-add_manifest-clause-cut : goal.returns-in_err-add_manifest-clause-cut
returns-in_err-add_manifest-clause-cut g c =
    let lent = lent_listed c.args.production.now (g.P.Shows.matter c.args.shown.now) _ _ _ c.as_slice.ensures.value c.in_ok-list.ensures in
    on_err c.from_residual-in_err-add_manifest.result c.in_err-add_manifest.field-0.0 _
    (manifest_cut c.args.production.now (g.P.Shows.matter c.args.shown.now) _ _ _ _ _ _ lent c.in_ok-add_listed.ensures.files
    (c.as_slice-2.ensures.value ∙ gathered c.args.production.now (g.P.Shows.matter c.args.shown.now) _ _ _ lent c.new-manifest.ensures.items c.in_ok-add_listed.ensures.lines_are)
    c.in_err-add_manifest.ensures.cut) (search rules)

pub returns-clause-told : goal.returns-clause-told
returns-clause-told g c =
    let lent = lent_listed c.args.production.now (g.P.Shows.matter c.args.shown.now) _ _ _ c.as_slice.ensures.value c.in_ok-list.ensures in
    told-is c.args.production.now (g.P.Shows.matter c.args.shown.now) _ c.file_count.result c.as_slice-4.result.now c.digest_of.result lent
    (c.file_count.ensures ∙ ap (λ l. length l + 1) (c.as_slice-3.ensures.value ∙ sym c.as_slice.ensures.value))
    (c.as_slice-4.ensures.value ∙ gathered c.args.production.now (g.P.Shows.matter c.args.shown.now) _ _ _ lent c.new-manifest.ensures.items c.in_ok-add_listed.ensures.lines_are)
    c.digest_of.ensures

pub returns-clause-files : goal.returns-clause-files
returns-clause-files g c =
    let lent = lent_listed c.args.production.now (g.P.Shows.matter c.args.shown.now) _ _ _ c.as_slice.ensures.value c.in_ok-list.ensures in
    volume_end c.args.production.now (g.P.Shows.matter c.args.shown.now) _ _ _ _ _ lent c.in_ok-add_listed.ensures.files
    (c.as_slice-2.ensures.value ∙ gathered c.args.production.now (g.P.Shows.matter c.args.shown.now) _ _ _ lent c.new-manifest.ensures.items c.in_ok-add_listed.ensures.lines_are)
    c.in_ok-add_manifest.ensures.files
