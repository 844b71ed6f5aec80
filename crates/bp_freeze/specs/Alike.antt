-- Two matters that a freeze can't tell apart.
use Rattle.std.specs.Prelude.{◌≡◌, ℕ, ◌≤◌, Bool, false, Ok}
use Rattle.bp_core.specs.Sorted.{find_key}
use Rattle.bp_matter.specs.Matter.{Matter, call_key}
use Rattle.bp_matter.specs.Treatments.{is_withheld}
use Rattle.bp_matter.specs.declared.rows.Production.{Production}
use Rattle.bp_matter.specs.declared.rows.Request.{Request}
use Rattle.bp_freeze.specs.Agree.{Agree}
use Rattle.bp_freeze.specs.Freezing.{freeze_of}
use Rattle.bp_freeze.specs.Seeing.{decisions_of, page_count, treatment_of}

-- a document is called Withhold
abbrev pub is_withheld_doc : Matter → ℕ → Bool
is_withheld_doc m doc = is_withheld (treatment_of (find_key call_key doc m.calls))

-- the same was decided, and the documents of the range that aren't called Withhold have as many
-- pages
pub record DecidedAlike (q : Request) (m n : Matter) : Type 0 where
  pub decisions : decisions_of m ≡ decisions_of n
  pub counts : (doc : ℕ) → q.from.0 ≤ doc → doc ≤ q.to.0
      → is_withheld_doc m doc ≡ false → page_count m doc ≡ page_count n doc

-- and what is frozen shows the same in both
pub record Alike (q : Request) (m n : Matter) : Type 0 where
  pub decided : DecidedAlike q m n
  pub shown : (f : Production) → freeze_of m q ≡ Ok f → Agree f m n
