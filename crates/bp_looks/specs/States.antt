-- What is told of the states of documents.
use Rattle.std.specs.Prelude.{ℕ, ◌-◌, List, drop, take, length, map, if◌then◌else◌, Result, Ok, Err}
use Rattle.bp_core.specs.declared.rules.Rule.{Rule}
use Rattle.bp_matter.specs.Confirming.{boxes_on, held_on, is_entered}
use Rattle.bp_matter.specs.LookUps.{call_with, called_state}
use Rattle.bp_matter.specs.Matter.{Matter}
use Rattle.bp_matter.specs.ValidRows.{names}
use Rattle.bp_matter.specs.declared.rows.DocRow.{DocRow}
use Rattle.bp_looks.specs.Produced.{produced_in}
use Rattle.bp_looks.specs.Refusing.{no_document}
use Rattle.bp_looks.specs.Shown.{shown_designation, shown_responsive, shown_treatment}
use Rattle.bp_matter.specs.declared.looks.StateRow.{StateRow}
use Rattle.bp_looks.specs.declared.states.TheConstants.{MAX_STATES}

-- how far the document in this row has come: its call, and how much else there is of it
abbrev pub state_row : Matter → DocRow → StateRow
state_row m row =
    let doc = row.doc.0 in
    let call = call_with doc m in
    record {
      doc = row.doc;
      parent = row.parent;
      pages = row.pages;
      state = called_state call;
      responsive = shown_responsive call;
      treatment = shown_treatment call;
      designation = shown_designation call;
      boxes = length (boxes_on doc m.boxes);
      held = length (held_on doc m.held);
      entry = is_entered doc m.entries;
      production = produced_in m doc;
    }

-- the documents from one on, at most so many: they are numbered from 1
abbrev pub docs_from : Matter → ℕ → List DocRow
docs_from m from = take MAX_STATES (drop (from - 1) m.docs)

-- how far each of them has come
abbrev pub states_of : Matter → ℕ → List StateRow
states_of m from = map (state_row m) (docs_from m from)

-- what is answered of the states from a document on, which is one of the matter
abbrev pub see_states : Matter → ℕ → Result (List StateRow) Rule
see_states m from =
    if names (length m.docs) from then Ok (states_of m from) else Err (no_document from)
