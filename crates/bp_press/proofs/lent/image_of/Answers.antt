use Rattle.std.proofs.Common.{ap, subst, sym, ◌∙◌}
use Rattle.std.specs.Option.{option_copied}
use Rattle.bp_rows.specs.Image.{Image}
use Rattle.bp_burn.specs.Band.{produced_of}
use Rattle.bp_press.specs.Jobs.{IsCodable, page_of_job}
use Rattle.bp_press.proofs.JobLemmas.{kept_image, kept_sides}
use Rattle.bp_press.proofs.lent.image_of.Goals as goal

pub returns-in-Some-clause-is : goal.returns-in-Some-clause-is
returns-in-Some-clause-is c =
    let m = c.args.tables.now.matter in
    let it = c.in-Image in
    let found = sym c.kept.ensures ∙ ap option_copied c.in-Some.is in
    ap (λ (image : Image). produced_of it.ink image it.stamps it.label it.designation) (kept_image m it.doc.0 it.page.0 c.in-Some.scan.now found) ∙ sym (ap (page_of_job m) it.is)

pub returns-in-Some-clause-can : goal.returns-in-Some-clause-can
returns-in-Some-clause-can c =
    let m = c.args.tables.now.matter in
    let found = sym c.kept.ensures ∙ ap option_copied c.in-Some.is in
    record {
      sides = kept_sides m c.know_valid.ensures _ _ c.in-Some.scan.now found;
      band = (subst (IsCodable m) c.in-Image.is c.requires).band;
    }

pub returns-in-Slip-clause-is : goal.returns-in-Slip-clause-is
returns-in-Slip-clause-is c = sym (ap (page_of_job c.args.tables.now.matter) c.in-Slip.is)
