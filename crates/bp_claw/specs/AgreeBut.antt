-- Two matters that show the same of a production but of the documents that a notice names: as where
-- they agree on it, with the named items counted as withheld.
use Rattle.std.specs.Prelude.{◌≡◌, false, List, All}
use Rattle.bp_matter.specs.Matter.{Matter}
use Rattle.bp_matter.specs.Treatments.{is_withheld}
use Rattle.bp_matter.specs.declared.rows.Production.{Production}
use Rattle.bp_freeze.specs.Agree.{ItemAgrees, field_number}
use Rattle.bp_claw.specs.Claims.{is_named}
use Rattle.bp_claw.specs.declared.notices.Claim.{Claim}

-- of an item that is withheld, or that the notice names, nothing is asked
pub record AgreeBut (f : Production) (notice : List Claim) (m n : Matter) : Type 0 where
  pub numbers : All (λ name. field_number m name ≡ field_number n name) f.request.fields
  pub items : All (λ i. is_withheld i.treatment ≡ false → is_named notice i.doc.0 ≡ false
      → ItemAgrees f m n i) f.items
