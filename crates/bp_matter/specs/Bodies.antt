-- The bodies of kept rows: how each row of the tables is written. Each begins with the version,
-- which is 1; that of a production tells its ink.
use Rattle.std.specs.Prelude.{ℕ, List, ◌++◌}
use Rattle.bp_matter.specs.declared.rows.StaffRow.{StaffRow}
use Rattle.bp_matter.specs.declared.rows.FieldRow.{FieldRow}
use Rattle.bp_matter.specs.declared.rows.DocRow.{DocRow}
use Rattle.bp_rows.specs.Image.{Image}
use Rattle.bp_matter.specs.Images.{strip, unit_number}
use Rattle.bp_matter.specs.declared.rows.PageRow.{PageRow}
use Rattle.bp_matter.specs.declared.rows.CallRow.{CallRow}
use Rattle.bp_matter.specs.declared.rows.BoxRow.{BoxRow}
use Rattle.bp_matter.specs.declared.rows.HeldRow.{HeldRow}
use Rattle.bp_matter.specs.declared.rows.DocBox.{DocBox}
use Rattle.bp_matter.specs.declared.rows.DocHeld.{DocHeld}
use Rattle.bp_matter.specs.declared.rows.Entry.{Entry}
use Rattle.bp_matter.specs.declared.rows.DocEntry.{DocEntry}
use Rattle.bp_matter.specs.declared.rows.PrefixRow.{PrefixRow}
use Rattle.bp_matter.specs.declared.rows.Request.{Request}
use Rattle.bp_matter.specs.declared.rows.Item.{Item}
use Rattle.bp_matter.specs.declared.rows.ProductionRow.{ProductionRow}
use Rattle.bp_matter.specs.declared.rows.BatchRow.{BatchRow}
use Rattle.bp_text.specs.declared.words.Word.{Word}
use Rattle.bp_matter.specs.declared.rows.PageWords.{PageWords}
use Rattle.bp_matter.specs.Fields.{byte, word, long_kept, text_kept, list, flag, optional, role_number, basis, ink_number, treatment, state, rect, span, prefix}

-- parts that several bodies share
abbrev pub entry_part : Entry → List ℕ
entry_part e =
    text_kept e.date ++ (text_kept e.author ++ (text_kept e.recipients ++ text_kept e.description))

-- a box but its number
abbrev pub box_rest : BoxRow → List ℕ
box_rest b = word b.page.0 ++ (rect b.rect ++ basis b.basis)

-- a box within an item
abbrev pub box_part : BoxRow → List ℕ
box_part b = word b.num ++ box_rest b

-- a held field within an item
abbrev pub held_part : HeldRow → List ℕ
held_part h = word h.field ++ basis h.basis

-- a word within a page
abbrev pub word_part : Word → List ℕ
word_part w = word w.line ++ (rect w.rect ++ text_kept w.text)

-- an item within a production
abbrev pub item_part : Item → List ℕ
item_part i =
    word i.doc.0 ++ (word i.parent.0 ++ (treatment i.treatment ++ (list box_part i.boxes
    ++ (list held_part i.held ++ (optional entry_part i.entry ++ (text_kept i.designation
    ++ span i.span))))))

-- a request within a production
abbrev pub request_part : Request → List ℕ
request_part r =
    text_kept r.id ++ (text_kept r.volume ++ (prefix r.prefix ++ (word r.from.0 ++ (word r.to.0
    ++ list text_kept r.fields))))

-- the strip has no length before it: it is the rest
abbrev pub image_part : Image → List ℕ
image_part p =
    word p.width ++ (word p.height ++ (word p.xres.num ++ (word p.xres.den ++ (word p.yres.num
    ++ (word p.yres.den ++ (byte (unit_number p.unit) ++ strip p))))))

-- the body of each kind of row
abbrev pub staff_body : StaffRow → List ℕ
staff_body row = byte 1 ++ (byte (role_number row.role) ++ (row.digest ++ text_kept row.name))

-- the body of a field
abbrev pub field_body : FieldRow → List ℕ
field_body row = byte 1 ++ text_kept row.name

-- the body of a document
abbrev pub doc_body : DocRow → List ℕ
doc_body row =
    byte 1 ++ (word row.parent.0 ++ (word row.pages ++ (word row.batch ++ (text_kept row.id
    ++ list text_kept row.values))))

-- the body of a page
abbrev pub page_body : PageRow → List ℕ
page_body row = byte 1 ++ image_part row.image

-- the body of a call
abbrev pub call_body : CallRow → List ℕ
call_body row =
    byte 1 ++ (state row.state ++ (flag row.responsive ++ (treatment row.treatment
    ++ text_kept row.designation)))

-- the body of a box
abbrev pub box_body : DocBox → List ℕ
box_body box = byte 1 ++ box_rest box.row

-- the body of a held field
abbrev pub held_body : DocHeld → List ℕ
held_body held = byte 1 ++ basis held.row.basis

-- the body of a log entry
abbrev pub entry_body : DocEntry → List ℕ
entry_body row = byte 1 ++ entry_part row.entry

-- the body of a prefix
abbrev pub prefix_body : PrefixRow → List ℕ
prefix_body row =
    byte 1 ++ (byte row.prefix.width ++ (long_kept row.next ++ text_kept row.prefix.text))

-- the body of a production
abbrev pub production_body : ProductionRow → List ℕ
production_body row =
    byte (ink_number row.production.ink)
    ++ (request_part row.production.request ++ list item_part row.production.items)

-- the body of a batch
abbrev pub batch_body : BatchRow → List ℕ
batch_body row =
    byte 1 ++ (row.digest ++ (word row.documents ++ (word row.pages ++ text_kept row.name)))

-- the body of the words of a page
abbrev pub words_body : PageWords → List ℕ
words_body row = byte 1 ++ list word_part row.words
