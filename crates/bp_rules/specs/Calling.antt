-- What calls do to the tables, and what is told of a document.
use Rattle.std.specs.Prelude.{Bool, List, [], ◌∷◌, ◌++◌, false, length, map, Option, Some, None, ℕ, ◌+◌}
use Rattle.bp_core.specs.Sorted.{find_key, put, two_keys, without}
use Rattle.bp_core.specs.declared.numbers.StaffNo.{StaffNo}
use Rattle.bp_core.specs.declared.review.Treatment.{Treatment}
use Rattle.bp_core.specs.declared.review.Treatment.TheVariants.{Produce}
use Rattle.bp_text.specs.declared.words.Word.{Word}
use Rattle.bp_matter.specs.Confirming.{boxes_on, held_on}
use Rattle.bp_matter.specs.LookUps.{call_with, called_state, entry_with, of_row}
use Rattle.bp_matter.specs.Matter.{Matter, box_key, call_key, entry_key, held_key}
use Rattle.bp_matter.specs.declared.calls.DocView.{DocView}
use Rattle.bp_matter.specs.declared.rows.CallRow.{CallRow}
use Rattle.bp_matter.specs.declared.rows.DocBox.{DocBox}
use Rattle.bp_matter.specs.declared.rows.DocEntry.{DocEntry}
use Rattle.bp_matter.specs.declared.rows.DocHeld.{DocHeld}
use Rattle.bp_matter.specs.declared.rows.DocRow.{DocRow}
use Rattle.bp_matter.specs.declared.rows.PageWords.{PageWords}
use Rattle.bp_matter.specs.declared.rows.StaffRow.{StaffRow}
use Rattle.bp_matter.specs.declared.rows.State.{State}
use Rattle.bp_matter.specs.declared.rows.State.TheVariants.{Confirmed, First, Uncalled}

-- one more member of the staff
abbrev pub with_staff : StaffRow → Matter → Matter
with_staff row m = record m { staff = m.staff ++ row ∷ [] }

-- the next member of the staff
abbrev pub next_staff : Matter → StaffNo
next_staff m = record { 0 = length m.staff + 1 }

-- a document called so, whatever it was called before
abbrev pub with_call : CallRow → Matter → Matter
with_call row m = record m { calls = put call_key row m.calls }

-- a document uncalled
abbrev pub without_call : ℕ → Matter → Matter
without_call doc m = record m { calls = without call_key doc m.calls }

-- a box put, in place of the document's box of its number
abbrev pub with_box : DocBox → Matter → Matter
with_box row m = record m { boxes = put box_key row m.boxes }

-- a box of a document gone, by its number
abbrev pub without_box : ℕ → ℕ → Matter → Matter
without_box doc num m = record m { boxes = without box_key (two_keys doc num) m.boxes }

-- a field held back, in place of what it was held for
abbrev pub with_held : DocHeld → Matter → Matter
with_held row m = record m { held = put held_key row m.held }

-- a field of a document freed
abbrev pub without_held : ℕ → ℕ → Matter → Matter
without_held doc field m = record m { held = without held_key (two_keys doc field) m.held }

-- the log entry of a document set
abbrev pub with_entry : DocEntry → Matter → Matter
with_entry row m = record m { entries = put entry_key row m.entries }

-- the box of a document that has this number
abbrev pub box_with : ℕ → ℕ → Matter → Option DocBox
box_with doc num m = find_key box_key (two_keys doc num) m.boxes

-- what a field of a document is held for
abbrev pub held_with : ℕ → ℕ → Matter → Option DocHeld
held_with doc field m = find_key held_key (two_keys doc field) m.held

-- a call that this person edited last; a confirmed one isn't confirmed any more
abbrev pub first_by : StaffNo → CallRow → CallRow
first_by caller row = record row { state = First caller }

-- the calls, where this person edits the document of this one
abbrev pub calls_edited : StaffNo → Option CallRow → List CallRow → List CallRow
calls_edited caller None calls = calls
calls_edited caller (Some row) calls = put call_key (first_by caller row) calls

-- who edits a document makes its call theirs; an uncalled document stays uncalled
abbrev pub edited : StaffNo → ℕ → Matter → Matter
edited caller doc m = record m { calls = calls_edited caller (call_with doc m) m.calls }

-- a call confirmed by this person, unless it is confirmed
abbrev pub confirmed_state : StaffNo → State → State
confirmed_state caller Uncalled = Uncalled
confirmed_state caller (First editor) = Confirmed editor caller
confirmed_state caller (Confirmed editor confirmer) = Confirmed editor confirmer

-- the row of a call that this person confirms
abbrev pub confirmed_by : StaffNo → CallRow → CallRow
confirmed_by caller row = record row { state = confirmed_state caller row.state }

-- whether a document is shown as responsive: what its call says, and of none no
abbrev pub shown_responsive : Option CallRow → Bool
shown_responsive None = false
shown_responsive (Some row) = row.responsive

-- the treatment that is shown: that of the call, or to be produced
abbrev pub shown_treatment : Option CallRow → Treatment
shown_treatment None = Produce
shown_treatment (Some row) = row.treatment

-- the designation that is shown: that of the call, or none
abbrev pub shown_designation : Option CallRow → List ℕ
shown_designation None = []
shown_designation (Some row) = row.designation

-- all that is shown of a document
abbrev pub view_of : Matter → DocRow → DocView
view_of m row =
    let doc = row.doc.0 in
    let call = call_with doc m in
    record {
      doc = row.doc;
      parent = row.parent;
      pages = row.pages;
      state = called_state call;
      responsive = shown_responsive call;
      treatment = shown_treatment call;
      designation = shown_designation call;
      boxes = map (λ box. box.row) (boxes_on doc m.boxes);
      held = map (λ held. held.row) (held_on doc m.held);
      entry = of_row (λ entered. entered.entry) (entry_with doc m);
    }

-- the words of a page
abbrev pub words_in : Option PageWords → List Word
words_in None = []
words_in (Some row) = row.words
