-- The kept rows of a matter: a key of a kind and two numbers, and a body.
use Rattle.std.specs.Prelude.{List, ◌++◌, map}
use Rattle.bp_core.specs.declared.kept.Row.{Row}
use Rattle.bp_matter.specs.Matter.{Matter}
use Rattle.bp_matter.specs.declared.rows.StaffRow.{StaffRow}
use Rattle.bp_matter.specs.declared.rows.FieldRow.{FieldRow}
use Rattle.bp_matter.specs.declared.rows.DocRow.{DocRow}
use Rattle.bp_matter.specs.declared.rows.PageRow.{PageRow}
use Rattle.bp_matter.specs.declared.rows.CallRow.{CallRow}
use Rattle.bp_matter.specs.declared.rows.DocBox.{DocBox}
use Rattle.bp_matter.specs.declared.rows.DocHeld.{DocHeld}
use Rattle.bp_matter.specs.declared.rows.DocEntry.{DocEntry}
use Rattle.bp_matter.specs.declared.rows.PrefixRow.{PrefixRow}
use Rattle.bp_matter.specs.declared.rows.ProductionRow.{ProductionRow}
use Rattle.bp_matter.specs.declared.rows.BatchRow.{BatchRow}
use Rattle.bp_matter.specs.declared.rows.PageWords.{PageWords}
use Rattle.bp_matter.specs.Bodies.{staff_body, field_body, doc_body, page_body, call_body, box_body, held_body, entry_body, prefix_body, production_body, batch_body, words_body}

-- the kept row of each kind of row
abbrev pub staff_kept : StaffRow → Row
staff_kept row = record { kind = 1; k1 = row.staff.0; k2 = 0; body = staff_body row }

-- the kept row of a field
abbrev pub field_kept : FieldRow → Row
field_kept row = record { kind = 2; k1 = row.field; k2 = 0; body = field_body row }

-- the kept row of a document
abbrev pub doc_kept : DocRow → Row
doc_kept row = record { kind = 3; k1 = row.doc.0; k2 = 0; body = doc_body row }

-- the kept row of a page
abbrev pub page_kept : PageRow → Row
page_kept row = record { kind = 4; k1 = row.doc.0; k2 = row.page.0; body = page_body row }

-- the kept row of a call
abbrev pub call_kept : CallRow → Row
call_kept row = record { kind = 5; k1 = row.doc.0; k2 = 0; body = call_body row }

-- the kept row of a box
abbrev pub box_kept : DocBox → Row
box_kept row = record { kind = 6; k1 = row.doc.0; k2 = row.row.num; body = box_body row }

-- the kept row of a held field
abbrev pub held_kept : DocHeld → Row
held_kept row = record { kind = 7; k1 = row.doc.0; k2 = row.row.field; body = held_body row }

-- the kept row of a log entry
abbrev pub entry_kept : DocEntry → Row
entry_kept row = record { kind = 8; k1 = row.doc.0; k2 = 0; body = entry_body row }

-- the kept row of a prefix
abbrev pub prefix_kept : PrefixRow → Row
prefix_kept row = record { kind = 9; k1 = row.num; k2 = 0; body = prefix_body row }

-- the kept row of a production
abbrev pub production_kept : ProductionRow → Row
production_kept row = record { kind = 10; k1 = row.num; k2 = 0; body = production_body row }

-- the kept row of a batch
abbrev pub batch_kept : BatchRow → Row
batch_kept row = record { kind = 11; k1 = row.num; k2 = 0; body = batch_body row }

-- the kept row of the words of a page
abbrev pub words_kept : PageWords → Row
words_kept row = record { kind = 12; k1 = row.doc.0; k2 = row.page.0; body = words_body row }

-- the kept rows of a matter, in ascending order of key
abbrev pub rows_of : Matter → List Row
rows_of m =
    map staff_kept m.staff ++ (map field_kept m.fields ++ (map doc_kept m.docs
    ++ (map page_kept m.pages
    ++ (map call_kept m.calls ++ (map box_kept m.boxes ++ (map held_kept m.held
    ++ (map entry_kept m.entries
    ++ (map prefix_kept m.prefixes ++ (map production_kept m.productions
    ++ (map batch_kept m.batches ++ (map words_kept m.words)))))))))))
