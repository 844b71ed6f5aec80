-- The matter: what its tables hold, wherever they lie in memory.
use Rattle.std.specs.Prelude.{ℕ, List}
use Rattle.bp_core.specs.Sorted.{two_keys}
use Rattle.bp_matter.specs.declared.rows.StaffRow.{StaffRow}
use Rattle.bp_matter.specs.declared.rows.FieldRow.{FieldRow}
use Rattle.bp_matter.specs.declared.rows.DocRow.{DocRow}
use Rattle.bp_matter.specs.declared.rows.PageRow.{PageRow}
use Rattle.bp_matter.specs.declared.rows.CallRow.{CallRow}
use Rattle.bp_matter.specs.declared.rows.DocBox.{DocBox}
use Rattle.bp_matter.specs.declared.rows.DocHeld.{DocHeld}
use Rattle.bp_matter.specs.declared.rows.DocEntry.{DocEntry}
use Rattle.bp_matter.specs.declared.rows.PrefixRow.{PrefixRow}
use Rattle.bp_matter.specs.declared.rows.ProductionRow.{ProductionRow}
use Rattle.bp_matter.specs.declared.rows.BatchRow.{BatchRow}
use Rattle.bp_matter.specs.declared.rows.PageWords.{PageWords}
use Rattle.bp_matter.specs.declared.rows.BoxRow.{BoxRow}
use Rattle.bp_matter.specs.declared.rows.HeldRow.{HeldRow}

-- the tables of a matter, a list for each kind of row
pub record Matter : Type 0 where
  pub staff : List StaffRow
  pub fields : List FieldRow
  pub docs : List DocRow
  pub pages : List PageRow
  pub calls : List CallRow
  pub boxes : List DocBox
  pub held : List DocHeld
  pub entries : List DocEntry
  pub prefixes : List PrefixRow
  pub productions : List ProductionRow
  pub batches : List BatchRow
  pub words : List PageWords

-- the rooms of the shelves of documents, for each kind of row that has them
pub record ShelfRooms : Type 0 where
  pub calls : List ℕ
  pub boxes : List ℕ
  pub held : List ℕ
  pub entries : List ℕ

-- the matter, and how many rows can be added without taking memory: to each list, and to each shelf
pub record Shown : Type 0 where
  pub matter : Matter
  pub spare : ℕ
  pub rooms : ShelfRooms

-- the key of each kind of row in its list
abbrev pub staff_key : StaffRow → ℕ
staff_key row = row.staff.0

-- fields go by their number
abbrev pub field_key : FieldRow → ℕ
field_key row = row.field

-- documents go by their number
abbrev pub doc_key : DocRow → ℕ
doc_key row = row.doc.0

-- a page by its document and its number in it
abbrev pub page_key : PageRow → ℕ
page_key row = two_keys row.doc.0 row.page.0

-- calls go by their document
abbrev pub call_key : CallRow → ℕ
call_key row = row.doc.0

-- boxes go by document and number
abbrev pub box_key : DocBox → ℕ
box_key row = two_keys row.doc.0 row.row.num

-- held fields go by document and field
abbrev pub held_key : DocHeld → ℕ
held_key row = two_keys row.doc.0 row.row.field

-- log entries go by their document
abbrev pub entry_key : DocEntry → ℕ
entry_key row = row.doc.0

-- prefixes go by their number
abbrev pub prefix_key : PrefixRow → ℕ
prefix_key row = row.num

-- productions go by their number
abbrev pub production_key : ProductionRow → ℕ
production_key row = row.num

-- batches go by their number
abbrev pub batch_key : BatchRow → ℕ
batch_key row = row.num

-- words go by document and page
abbrev pub words_key : PageWords → ℕ
words_key row = two_keys row.doc.0 row.page.0

-- within a document or an item
abbrev pub box_number : BoxRow → ℕ
box_number row = row.num

-- held fields of an item go by their field
abbrev pub held_number : HeldRow → ℕ
held_number row = row.field
