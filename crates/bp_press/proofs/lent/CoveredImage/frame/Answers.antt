use Rattle.std.proofs.Common.{subst, sym}
use Rattle.bp_rows.specs.Image.{IsPage}
use Rattle.bp_press.specs.Shown.{CanBeCoded, image_lent}
use Rattle.bp_press.specs.declared.lent.CoveredImage.{CoveredImage}
use Rattle.bp_press.proofs.JobLemmas.{lent_page}
use Rattle.bp_press.proofs.ReadLemmas.{slip_is_page}
use Rattle.bp_press.proofs.lent.CoveredImage.frame.Goals as goal

pub returns-in-Page-clause-page : goal.returns-in-Page-clause-page
returns-in-Page-clause-page c =
    subst (λ (image : CoveredImage). IsPage (image_lent image)) (sym c.in-Page.is)
    (lent_page c.in-Page.page c.frame-frame.ensures.page (subst CanBeCoded c.in-Page.is c.requires).sides)

pub returns-in-Sheet-clause-page : goal.returns-in-Sheet-clause-page
returns-in-Sheet-clause-page c =
    subst (λ (image : CoveredImage). IsPage (image_lent image)) (sym c.in-Sheet.is)
    (slip_is_page c.in-Sheet.basis c.in-Sheet.label.now c.in-Sheet.designation.now)
