use Rattle.std.proofs.Common.{All, ap, subst, sym}
use Rattle.std.specs.List.{Contains}
use Rattle.bp_matter.specs.declared.rows.Production.{Production}
use Rattle.bp_press.specs.Shown.{IsOwnJob}
use Rattle.bp_press.specs.VolumeFiles.{CanBeFilled}
use Rattle.bp_press.specs.Batches.{is_image, jobs_by}
use Rattle.bp_press.proofs.BatchLemmas.{image_first, made_as_listed}
use Rattle.bp_press.proofs.file_rows.bytes_with.Goals as goal

pub first_file-requires-clause-some : goal.first_file-requires-clause-some
first_file-requires-clause-some g c =
    (image_first c.args.production.now (g.P.Shows.matter c.args.shown.now) c.args.file.now _ c.args.jobs.now c.args.strips.now (ap (jobs_by c.args.production.now) c.in-Page.is) c.requires.images).0

pub first_file-requires-in-Sheet-clause-some : goal.first_file-requires-in-Sheet-clause-some
first_file-requires-in-Sheet-clause-some g c =
    (image_first c.args.production.now (g.P.Shows.matter c.args.shown.now) c.args.file.now _ c.args.jobs.now c.args.strips.now (ap (jobs_by c.args.production.now) c.in-Sheet.is) c.requires.images).0

pub returns-in-Page : goal.returns-in-Page
returns-in-Page g c = made_as_listed c.args.production.now (g.P.Shows.matter c.args.shown.now) c.args.file.now c.args.jobs.now c.args.strips.now c.first_file.result (ap is_image c.in-Page.is) c.requires.images c.first_file.ensures

pub returns-in-Sheet : goal.returns-in-Sheet
returns-in-Sheet g c =
    made_as_listed c.args.production.now (g.P.Shows.matter c.args.shown.now) c.args.file.now c.args.jobs.now c.args.strips.now c.first_file-in-Sheet.result (ap is_image c.in-Sheet.is) c.requires.images c.first_file-in-Sheet.ensures

pub first_file-requires-clause-own : goal.first_file-requires-clause-own
first_file-requires-clause-own g c = subst (λ (f : Production). All (IsOwnJob f) c.args.jobs.now) (sym c.requires.same) c.requires.images.own

pub first_file-requires-in-Sheet-clause-own : goal.first_file-requires-in-Sheet-clause-own
first_file-requires-in-Sheet-clause-own g c = subst (λ (f : Production). All (IsOwnJob f) c.args.jobs.now) (sym c.requires.same) c.requires.images.own

pub text_bytes-requires-clause-there : goal.text_bytes-requires-clause-there
text_bytes-requires-clause-there g c =
    let made = subst (CanBeFilled c.args.production.now (g.P.Shows.matter c.args.shown.now)) c.in-Text.is c.requires.made in
    subst (λ (f : Production). Contains f.items c.in-Text.item.now) (sym c.requires.same) made.own

pub text_bytes-requires-clause-from : goal.text_bytes-requires-clause-from
text_bytes-requires-clause-from g c = (subst (CanBeFilled c.args.production.now (g.P.Shows.matter c.args.shown.now)) c.in-Text.is c.requires.made).placed.doc

pub text_bytes-requires-clause-to : goal.text_bytes-requires-clause-to
text_bytes-requires-clause-to g c = (subst (CanBeFilled c.args.production.now (g.P.Shows.matter c.args.shown.now)) c.in-Text.is c.requires.made).placed.there
