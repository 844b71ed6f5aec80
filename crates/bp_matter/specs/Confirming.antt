-- What the call of a document asks of its boxes, held fields and log entry, and when it may be
-- confirmed.
use Rattle.std.specs.List.{filter, list_all, list_any}
use Rattle.std.specs.Prelude.{Bool, IsTrue, List, None, Option, Some, if◌then◌else◌, is_none, length, not, true, ℕ, ◌&&◌, ◌==◌, ◌||◌}
use Rattle.bp_core.specs.Sorted.{find_key}
use Rattle.bp_core.specs.declared.review.Treatment.{Treatment}
use Rattle.bp_core.specs.declared.rules.RuleKind.{RuleKind}
use Rattle.bp_core.specs.declared.rules.RuleKind.TheVariants as kinds
use Rattle.bp_matter.specs.Matter.{call_key, entry_key, staff_key}
use Rattle.bp_matter.specs.Treatments.{is_privileged, is_redact, is_withheld}
use Rattle.bp_matter.specs.ValidStaff.{checker_there}
use Rattle.bp_matter.specs.declared.rows.CallRow.{CallRow}
use Rattle.bp_matter.specs.declared.rows.DocBox.{DocBox}
use Rattle.bp_matter.specs.declared.rows.DocEntry.{DocEntry}
use Rattle.bp_matter.specs.declared.rows.DocHeld.{DocHeld}
use Rattle.bp_matter.specs.declared.rows.StaffRow.{StaffRow}
use Rattle.bp_matter.specs.declared.rows.State.{State}
use Rattle.bp_matter.specs.declared.rows.State.TheVariants.{Confirmed}

-- a document whose call is this may have boxes: it is uncalled, or called Redact
abbrev pub may_hold : Option CallRow → Bool
may_hold None = true
may_hold (Some row) = is_redact row.treatment

-- the boxes of a document
abbrev pub boxes_on : ℕ → List DocBox → List DocBox
boxes_on doc boxes = filter (λ box. box.doc.0 == doc) boxes

-- the held fields of a document
abbrev pub held_on : ℕ → List DocHeld → List DocHeld
held_on doc held = filter (λ row. row.doc.0 == doc) held

-- the privilege log lists what is withheld, or held back for AC or WP
abbrev pub needs_entry : Treatment → List DocBox → List DocHeld → Bool
needs_entry treatment boxes held =
    is_withheld treatment || list_any (λ box. is_privileged box.row.basis) boxes
    || list_any (λ row. is_privileged row.row.basis) held

-- the first rule that keeps this person from confirming a call of a document with these boxes and
-- held fields
abbrev pub confirm_rule : CallRow → ℕ → List DocBox → List DocHeld → Bool → ℕ → Option RuleKind
confirm_rule row editor boxes held has_entry confirmer =
    if editor == confirmer then Some kinds.SamePerson
    else (if is_redact row.treatment && (length boxes == 0) && (length held == 0)
    then Some kinds.NothingRedacted
    else (if needs_entry row.treatment boxes held && not has_entry then Some kinds.EntryMissing
    else None))

-- the document has a log entry
abbrev pub is_entered : ℕ → List DocEntry → Bool
is_entered doc entries = not (is_none (find_key entry_key doc entries))

-- what a confirmed state asks of the other rows
abbrev pub state_holds : List StaffRow → List DocBox → List DocHeld → List DocEntry → CallRow
    → State → Bool
state_holds staff boxes held entries row (Confirmed editor confirmer) =
    checker_there (find_key staff_key confirmer.0 staff)
    && is_none (confirm_rule row editor.0 (boxes_on row.doc.0 boxes) (held_on row.doc.0 held)
    (is_entered row.doc.0 entries) confirmer.0)
state_holds staff boxes held entries row _ = true

-- what the marks of a document and its call ask of one another
pub record ReviewFacts (staff : List StaffRow) (calls : List CallRow) (boxes : List DocBox)
    (held : List DocHeld) (entries : List DocEntry) : Type 0 where
  pub boxes_held : IsTrue (list_all (λ box. may_hold (find_key call_key box.doc.0 calls)) boxes)
  pub fields_held : IsTrue (list_all (λ row. may_hold (find_key call_key row.doc.0 calls)) held)
  pub confirmed : IsTrue (list_all
      (λ row. state_holds staff boxes held entries row row.state) calls)
