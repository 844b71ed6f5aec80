use Rattle.std.proofs.Common.{◌≡◌, ap, map, subst, sym, ◌∙◌}
use Rattle.std.specs.Prelude.{IfOk}
use Rattle.std.proofs.lemmas.List.{get_or_read}
use Rattle.std.proofs.lemmas.List.Elements.{All-same}
use Rattle.bp_press.specs.Batches.{HasImages, file_made_by}
use Rattle.bp_press.specs.Jobs.{IsCodable, strip_by}
use Rattle.bp_press.specs.Shown.{IsOwnJob}
use Rattle.bp_press.specs.declared.volume_files.VolumeFile.{VolumeFile}
use Rattle.bp_press.proofs.BatchLemmas.{codable, images_at, own_all, images_within, strips_within}
use Rattle.bp_press.proofs.made_files.file_at.Goals as goal

pub jobs_from-requires : goal.jobs_from-requires
jobs_from-requires g c =
    images_within c.args.maker.now.production.now c.args.files.now c.args.place c.images_before-first.result c.as_slice.result.now c.images_before-first.ensures
    (c.as_slice.ensures ∙ c.requires.jobs)

pub strips_from-requires : goal.strips_from-requires
strips_from-requires g c =
    let m = g.P.Shows.matter c.args.maker.now.shown.now in
    let jobs = c.as_slice.ensures ∙ c.requires.jobs in
    strips_within m c.images_before-first.result c.as_slice.result.now c.as_slice-2.result.now
    (images_within c.args.maker.now.production.now c.args.files.now c.args.place c.images_before-first.result c.as_slice.result.now c.images_before-first.ensures jobs)
    (c.as_slice-2.ensures ∙ c.requires.strips ∙ ap (map (strip_by m)) (sym c.as_slice.ensures))

pub made_file-requires-clause-images : goal.made_file-requires-clause-images
made_file-requires-clause-images g c =
    let f = c.args.maker.now.production.now in
    let m = g.P.Shows.matter c.args.maker.now.shown.now in
    let jobs = c.as_slice.ensures ∙ c.requires.jobs in
    subst (λ (entry : VolumeFile). HasImages f m entry c.jobs_from.result.now c.strips_from.result.now) (sym c.index-files-place.is)
    (images_at f m c.args.files.now c.args.place c.images_before-first.result c.index-files-place.result c.as_slice.result.now c.jobs_from.result.now c.as_slice-2.result.now c.strips_from.result.now
    c.requires.place c.images_before-first.ensures jobs
    (All-same (IsCodable m) c.as_slice.result.now _ jobs (codable f m c.args.files.now c.requires.made))
    (All-same (IsOwnJob f) c.as_slice.result.now _ jobs (own_all f m c.args.files.now c.requires.made))
    (c.as_slice-2.ensures ∙ c.requires.strips ∙ ap (map (strip_by m)) (sym c.as_slice.ensures)) c.jobs_from.ensures c.strips_from.ensures)

pub returns : goal.returns
returns g c = λ d.
    subst (λ (entry : VolumeFile). IfOk c.made_file.result (λ file. file ≡ file_made_by c.args.maker.now.production.now (g.P.Shows.matter c.args.maker.now.shown.now) entry))
    (get_or_read c.args.files.now c.args.place c.index-files-place.result c.requires.place c.index-files-place.is d) c.made_file.ensures
