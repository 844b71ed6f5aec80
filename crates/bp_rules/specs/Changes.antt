-- Changes of a matter: what it is after one, and what becomes of the kept rows.
use Rattle.std.specs.Prelude.{◌≡◌, ℕ, List, [], ◌∷◌, ◌++◌, map, Some, None}
use Rattle.bp_core.specs.Sorted.{put, two_keys, without}
use Rattle.bp_core.specs.declared.kept.Put.{Put}
use Rattle.bp_core.specs.declared.kept.Row.{Row}
use Rattle.bp_keep.specs.Puts.{put_all}
use Rattle.bp_matter.specs.KeptRows.{batch_kept, box_kept, call_kept, doc_kept, entry_kept, field_kept, held_kept, page_kept, prefix_kept, production_kept, rows_of, staff_kept, words_kept}
use Rattle.bp_matter.specs.Matter.{Matter, box_key, call_key, entry_key, held_key, prefix_key}
use Rattle.bp_matter.specs.Valid.{IsValid}
use Rattle.bp_matter.specs.declared.rows.CallRow.{CallRow}
use Rattle.bp_matter.specs.declared.rows.DocBox.{DocBox}
use Rattle.bp_matter.specs.declared.rows.DocEntry.{DocEntry}
use Rattle.bp_matter.specs.declared.rows.DocHeld.{DocHeld}
use Rattle.bp_matter.specs.declared.rows.PrefixRow.{PrefixRow}
use Rattle.bp_matter.specs.declared.rows.ProductionRow.{ProductionRow}
use Rattle.bp_rules.specs.Calling.{with_staff}
use Rattle.bp_rules.specs.declared.changes.CallEdit.{CallEdit}
use Rattle.bp_rules.specs.declared.changes.CallEdit.TheVariants as call_edits
use Rattle.bp_rules.specs.declared.changes.Edit.{Edit}
use Rattle.bp_rules.specs.declared.changes.Edit.TheVariants.{Import, Nothing, Produced, Review, Staff}
use Rattle.bp_rules.specs.declared.changes.MarkEdit.{MarkEdit}
use Rattle.bp_rules.specs.declared.changes.MarkEdit.TheVariants as mark_edits
use Rattle.bp_rules.specs.declared.changes.ImportRows.{ImportRows}

-- the matter with the rows of an import behind its own
abbrev pub with_rows : Matter → ImportRows → Matter
with_rows m rows =
    record m {
      fields = m.fields ++ rows.fields;
      docs = m.docs ++ rows.docs;
      pages = m.pages ++ rows.pages;
      batches = m.batches ++ rows.batch ∷ [];
      words = m.words ++ rows.words;
    }

-- the calls, where the call of a document is changed
abbrev pub calls_after : CallEdit → List CallRow → List CallRow
calls_after call_edits.Stays calls = calls
calls_after (call_edits.Put row) calls = put call_key row calls
calls_after (call_edits.Gone doc) calls = without call_key doc.0 calls

-- the boxes, where one of them is changed
abbrev pub boxes_after : MarkEdit → List DocBox → List DocBox
boxes_after (mark_edits.PutBox row) boxes = put box_key row boxes
boxes_after (mark_edits.DropBox doc num) boxes = without box_key (two_keys doc.0 num) boxes
boxes_after _ boxes = boxes

-- the held fields, where one of them is changed
abbrev pub held_after : MarkEdit → List DocHeld → List DocHeld
held_after (mark_edits.PutHeld row) held = put held_key row held
held_after (mark_edits.DropHeld doc field) held = without held_key (two_keys doc.0 field) held
held_after _ held = held

-- the log entries, where one of them is changed
abbrev pub entries_after : MarkEdit → List DocEntry → List DocEntry
entries_after (mark_edits.PutEntry row) entries = put entry_key row entries
entries_after _ entries = entries

-- the matter with a prefix, in place of the one of its number, and a production behind its own
abbrev pub with_produced : PrefixRow → ProductionRow → Matter → Matter
with_produced prefix row m =
    record m {
      prefixes = put prefix_key prefix m.prefixes;
      productions = m.productions ++ row ∷ [];
    }

-- the matter after a change
abbrev pub after : Matter → Edit → Matter
after m Nothing = m
after m (Import rows) = with_rows m rows
after m (Staff row) = with_staff row m
after m (Produced prefix row) = with_produced prefix row m
after m (Review call mark) =
    record m {
      calls = calls_after call m.calls;
      boxes = boxes_after mark m.boxes;
      held = held_after mark m.held;
      entries = entries_after mark m.entries;
    }

-- the put that keeps a row
abbrev pub put_of : Row → Put
put_of row = record { kind = row.kind; k1 = row.k1; k2 = row.k2; body = Some row.body }

-- the rows of an import as they are kept, in ascending order of key
abbrev pub rows_kept : ImportRows → List Row
rows_kept rows =
    map field_kept rows.fields ++ (map doc_kept rows.docs ++ (map page_kept rows.pages
    ++ (batch_kept rows.batch ∷ map words_kept rows.words)))

-- the put that leaves no row of these numbers
abbrev pub gone : ℕ → ℕ → ℕ → Put
gone kind k1 k2 = record { kind = kind; k1 = k1; k2 = k2; body = None }

-- the puts of a changed call
abbrev pub call_puts : CallEdit → List Put
call_puts call_edits.Stays = []
call_puts (call_edits.Put row) = put_of (call_kept row) ∷ []
call_puts (call_edits.Gone doc) = gone 5 doc.0 0 ∷ []

-- the puts of a changed box, held field or log entry
abbrev pub mark_puts : MarkEdit → List Put
mark_puts mark_edits.Stays = []
mark_puts (mark_edits.PutBox row) = put_of (box_kept row) ∷ []
mark_puts (mark_edits.DropBox doc num) = gone 6 doc.0 num ∷ []
mark_puts (mark_edits.PutHeld row) = put_of (held_kept row) ∷ []
mark_puts (mark_edits.DropHeld doc field) = gone 7 doc.0 field ∷ []
mark_puts (mark_edits.PutEntry row) = put_of (entry_kept row) ∷ []

-- the puts of a change, in ascending order of key
abbrev pub puts_of : Edit → List Put
puts_of Nothing = []
puts_of (Import rows) = map put_of (rows_kept rows)
puts_of (Staff row) = put_of (staff_kept row) ∷ []
puts_of (Produced prefix row) =
    put_of (prefix_kept prefix) ∷ put_of (production_kept row) ∷ []
puts_of (Review call mark) = call_puts call ++ mark_puts mark

-- a change that can be made: the matter after it is valid, and its puts turn the kept rows of the
-- matter into those of the matter after it
pub record CanBeMade (m : Matter) (edit : Edit) : Type 0 where
  pub valid : IsValid (after m edit)
  pub rows : put_all (puts_of edit) (rows_of m) ≡ rows_of (after m edit)
