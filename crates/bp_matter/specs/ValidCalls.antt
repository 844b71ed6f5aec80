-- The calls of a valid matter.
use Rattle.std.specs.List.{list_all}
use Rattle.std.specs.Prelude.{Bool, IsTrue, List, false, ℕ, ◌&&◌}
use Rattle.bp_core.specs.Sorted.{ascends}
use Rattle.bp_matter.specs.Written.{call_written}
use Rattle.bp_matter.specs.Matter.{call_key}
use Rattle.bp_matter.specs.Texts.{is_designation}
use Rattle.bp_matter.specs.Treatments.{is_ground}
use Rattle.bp_matter.specs.ValidRows.{names}
use Rattle.bp_matter.specs.declared.rows.CallRow.{CallRow}
use Rattle.bp_matter.specs.declared.rows.State.{State}
use Rattle.bp_matter.specs.declared.rows.State.TheVariants.{Confirmed, First, Uncalled}

-- a called document's state names members of the staff
abbrev pub state_fits : ℕ → State → Bool
state_fits staff Uncalled = false
state_fits staff (First editor) = names staff editor.0
state_fits staff (Confirmed editor confirmer) = names staff editor.0 && names staff confirmer.0

-- the call of one of so many documents, by one of so many members of the staff
abbrev pub call_fits : ℕ → ℕ → CallRow → Bool
call_fits staff docs row =
    names docs row.doc.0 && state_fits staff row.state && is_ground row.treatment
    && is_designation row.designation

-- the calls of a matter with so many members of the staff and documents
pub record CallFacts (staff docs : ℕ) (calls : List CallRow) : Type 0 where
  pub ascend : IsTrue (ascends call_key 0 calls)
  pub fit : IsTrue (list_all (call_fits staff docs) calls)
  pub written : IsTrue (list_all call_written calls)
