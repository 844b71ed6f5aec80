-- What is shown of a document's call, and of an uncalled document.
use Rattle.std.specs.Prelude.{ℕ, Bool, false, List, [], Option, Some, None}
use Rattle.bp_core.specs.declared.review.Treatment.{Treatment}
use Rattle.bp_core.specs.declared.review.Treatment.TheVariants.{Produce}
use Rattle.bp_matter.specs.declared.rows.CallRow.{CallRow}

-- whether a document is shown as responsive: what its call says, and of none no
abbrev pub shown_responsive : Option CallRow → Bool
shown_responsive None = false
shown_responsive (Some row) = row.responsive

-- the treatment that is shown: that of the call, or to be produced
abbrev pub shown_treatment : Option CallRow → Treatment
shown_treatment None = Produce
shown_treatment (Some row) = row.treatment

-- the designation that is shown: that of the call, or none
abbrev pub shown_designation : Option CallRow → List ℕ
shown_designation None = []
shown_designation (Some row) = row.designation
