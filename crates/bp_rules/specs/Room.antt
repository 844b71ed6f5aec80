-- Room in the lists of tables.
use Rattle.std.specs.Prelude.{ℕ, ◌-◌, ◌≤◌, IsTrue, List, length, true, vec_len}
use Rattle.std.specs.Global.{Vec}
use Rattle.std.specs.Vec.{vec_capacity}
use Rattle.bp_matter.specs.Matter.{ShelfRooms, Shown}
use Rattle.bp_matter.specs.declared.rows.BatchRow.{BatchRow}
use Rattle.bp_matter.specs.declared.rows.DocRow.{DocRow}
use Rattle.bp_matter.specs.declared.rows.FieldRow.{FieldRow}
use Rattle.bp_matter.specs.declared.rows.PageRow.{PageRow}
use Rattle.bp_matter.specs.declared.rows.PageWords.{PageWords}
use Rattle.bp_rules.specs.Changes.{puts_of}
use Rattle.bp_rules.specs.declared.changes.CallEdit.{CallEdit}
use Rattle.bp_rules.specs.declared.changes.CallEdit.TheVariants as call_edits
use Rattle.bp_rules.specs.declared.changes.Edit.{Edit}
use Rattle.bp_rules.specs.declared.changes.Edit.TheVariants.{Review}
use Rattle.bp_rules.specs.declared.changes.ImportRows.{ImportRows}
use Rattle.bp_rules.specs.declared.changes.MarkEdit.{MarkEdit}
use Rattle.bp_rules.specs.declared.changes.MarkEdit.TheVariants as mark_edits
use Rattle.bp_shelves.specs.Shelves.{room_of}

-- so many rows can be added to a list without taking memory
abbrev pub HasRoom : {T : Type 0} → ℕ → Vec T → Type 0
HasRoom count rows = count ≤ vec_capacity rows - vec_len rows

-- and to each of four
pub record HasRoomForFour {A B C D : Type 0} (count : ℕ) (a : Vec A) (b : Vec B) (c : Vec C)
    (d : Vec D) : Type 0 where
  pub first : HasRoom count a
  pub second : HasRoom count b
  pub third : HasRoom count c
  pub fourth : HasRoom count d

-- and all rows of an import, each to its list
pub record HasRoomForRows (fields : Vec FieldRow) (docs : Vec DocRow) (pages : Vec PageRow)
    (batches : Vec BatchRow) (words : Vec PageWords) (rows : ImportRows) : Type 0 where
  pub of_fields : HasRoom (length rows.fields) fields
  pub of_docs : HasRoom (length rows.docs) docs
  pub of_pages : HasRoom (length rows.pages) pages
  pub of_batch : HasRoom 1 batches
  pub of_words : HasRoom (length rows.words) words

-- the call that a review puts finds room on the shelf of its document
abbrev pub HasRoomForCall : List ℕ → CallEdit → Type 0
HasRoomForCall rooms (call_edits.Put row) = 1 ≤ room_of rooms row.doc.0
HasRoomForCall rooms _ = IsTrue true

-- and so does the box, the held field or the log entry that it puts
abbrev pub HasRoomForMark : List ℕ → List ℕ → List ℕ → MarkEdit → Type 0
HasRoomForMark boxes held entries (mark_edits.PutBox row) = 1 ≤ room_of boxes row.doc.0
HasRoomForMark boxes held entries (mark_edits.PutHeld row) = 1 ≤ room_of held row.doc.0
HasRoomForMark boxes held entries (mark_edits.PutEntry row) = 1 ≤ room_of entries row.doc.0
HasRoomForMark boxes held entries _ = IsTrue true

-- the call and the mark of a review both find room
abbrev pub HasRoomForEdit : ShelfRooms → CallEdit → MarkEdit → Type 0
HasRoomForEdit rooms call mark =
    HasRoomForCall rooms.calls call × HasRoomForMark rooms.boxes rooms.held rooms.entries mark

-- tables have room for what a change puts: a review on the shelves of its document, any other
-- change in each list for as many rows as it has puts
abbrev pub HasRoomFor : Shown → Edit → Type 0
HasRoomFor tables (Review call mark) = HasRoomForEdit tables.rooms call mark
HasRoomFor tables edit = length (puts_of edit) ≤ tables.spare
