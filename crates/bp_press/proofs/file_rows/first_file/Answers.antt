use Rattle.std.proofs.Common.{◌≡◌, subst}
use Rattle.std.specs.Prelude.{IfOk}
use Rattle.std.proofs.lemmas.List.{get_or_read}
use Rattle.bp_rows.specs.Image.{Image}
use Rattle.bp_tiff.specs.Tiff.{tiff_of}
use Rattle.bp_tiff.specs.declared.form.Form.TheVariants.{G4}
use Rattle.bp_press.specs.Jobs.{page_of_job}
use Rattle.bp_press.specs.declared.jobs.Job.{Job}
use Rattle.bp_press.proofs.file_rows.first_file.Goals as goal

pub returns : goal.returns
returns g c = λ d.
    subst (λ (job : Job). IfOk c.image_file.result (λ bytes. bytes ≡ tiff_of G4 (page_of_job (g.P.Shows.matter c.args.shown.now) job)))
    (get_or_read c.args.jobs.now 0 c.index-jobs-0.result c.requires.some c.index-jobs-0.is d)
    (subst (λ (image : Image). IfOk c.image_file.result (λ bytes. bytes ≡ tiff_of G4 image)) c.image.ensures.is c.image_file.ensures)
