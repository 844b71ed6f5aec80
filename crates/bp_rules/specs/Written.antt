-- The rows of a change have a writing.
use Rattle.std.specs.Prelude.{Bool, IsTrue, true}
use Rattle.std.specs.List.{list_all}
use Rattle.bp_matter.specs.Written.{batch_written, box_written, call_written, doc_written, entry_written, field_written, held_written, page_written, prefix_written, production_written, staff_written, words_written}
use Rattle.bp_rules.specs.declared.changes.CallEdit.{CallEdit}
use Rattle.bp_rules.specs.declared.changes.CallEdit.TheVariants as call_edits
use Rattle.bp_rules.specs.declared.changes.Edit.{Edit}
use Rattle.bp_rules.specs.declared.changes.Edit.TheVariants.{Import, Nothing, Produced, Review, Staff}
use Rattle.bp_rules.specs.declared.changes.ImportRows.{ImportRows}
use Rattle.bp_rules.specs.declared.changes.MarkEdit.{MarkEdit}
use Rattle.bp_rules.specs.declared.changes.MarkEdit.TheVariants as mark_edits

-- the rows of an import have one
pub record RowsWritten (rows : ImportRows) : Type 0 where
  pub fields : IsTrue (list_all field_written rows.fields)
  pub docs : IsTrue (list_all doc_written rows.docs)
  pub pages : IsTrue (list_all page_written rows.pages)
  pub batch : IsTrue (batch_written rows.batch)
  pub words : IsTrue (list_all words_written rows.words)

-- a call that is put has a writing
abbrev pub call_edit_written : CallEdit → Bool
call_edit_written (call_edits.Put row) = call_written row
call_edit_written _ = true

-- a box, a held field or a log entry that is put has one
abbrev pub mark_edit_written : MarkEdit → Bool
mark_edit_written (mark_edits.PutBox row) = box_written row
mark_edit_written (mark_edits.PutHeld row) = held_written row
mark_edit_written (mark_edits.PutEntry row) = entry_written row
mark_edit_written _ = true

-- and so do the rows of any change
abbrev pub EditWritten : Edit → Type 0
EditWritten Nothing = Unit {0}
EditWritten (Import rows) = RowsWritten rows
EditWritten (Staff row) = IsTrue (staff_written row)
EditWritten (Produced prefix row) =
    IsTrue (prefix_written prefix) × IsTrue (production_written row)
EditWritten (Review call mark) = IsTrue (call_edit_written call) × IsTrue (mark_edit_written mark)
