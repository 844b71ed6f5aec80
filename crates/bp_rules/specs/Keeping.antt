-- What every call and every import leaves of what volumes are made of.
use Rattle.bp_matter.specs.Matter.{Matter}
use Rattle.bp_matter.specs.declared.rows.Production.{Production}
use Rattle.bp_freeze.specs.Keeping.{GrowsTo, KeepsProduction}

-- every stored production stays kept under its id; fields with their numbers, documents with their
-- values, pages and words stay as they were, with others behind them
pub record StepKeeps (m n : Matter) : Type 0 where
  pub productions : (f : Production) → KeepsProduction m f → KeepsProduction n f
  pub grows : GrowsTo m n
