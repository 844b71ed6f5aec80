-- What is told of the values of a document.
use Rattle.std.specs.Prelude.{ℕ, ◌-◌, List, [], map, slice_index_or, Option, Some, None, Result, Ok, Err}
use Rattle.bp_core.specs.Sorted.{find_key, two_keys}
use Rattle.bp_core.specs.declared.review.Basis.{Basis}
use Rattle.bp_core.specs.declared.rules.Rule.{Rule}
use Rattle.bp_matter.specs.LookUps.{doc_with, of_row}
use Rattle.bp_matter.specs.Matter.{Matter, held_key}
use Rattle.bp_matter.specs.declared.rows.DocRow.{DocRow}
use Rattle.bp_matter.specs.declared.rows.FieldRow.{FieldRow}
use Rattle.bp_looks.specs.Refusing.{no_document}
use Rattle.bp_matter.specs.declared.looks.ValueRow.{ValueRow}

-- the document's value of a field, whose number counts from 1, or the empty text: its values are
-- those of the first fields
abbrev pub value_in : DocRow → ℕ → List ℕ
value_in row field = slice_index_or row.values (field - 1) []

-- the ground on which a field of a document is held back, where it is
abbrev pub held_for : Matter → ℕ → ℕ → Option Basis
held_for m doc field =
    of_row (λ held. held.row.basis) (find_key held_key (two_keys doc field) m.held)

-- a field of the matter, with what the document has in it
abbrev pub value_row : Matter → DocRow → FieldRow → ValueRow
value_row m row field = record {
  field = field.field;
  name = field.name;
  value = value_in row field.field;
  held = held_for m row.doc.0 field.field;
}

-- each field of the matter, in order
abbrev pub values_of : Matter → DocRow → List ValueRow
values_of m row = map (value_row m row) m.fields

-- those of the document in this row, if there is one of that number
abbrev pub values_if : Matter → ℕ → Option DocRow → Result (List ValueRow) Rule
values_if m doc None = Err (no_document doc)
values_if m doc (Some row) = Ok (values_of m row)

-- what is answered of the values of a document
abbrev pub see_values : Matter → ℕ → Result (List ValueRow) Rule
see_values m doc = values_if m doc (doc_with doc m)
