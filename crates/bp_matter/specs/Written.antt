-- What has a writing: numbers of 32 or 64 bits, texts of fewer than 2^32 bytes, lists of fewer
-- than 2^32 members.
use Rattle.std.specs.Prelude.{ℕ, ◌^◌, Bool, true, false, List, [], ◌∷◌, length, nat_lt, ◌==◌, ◌&&◌, not, Option, Some, None, encode_utf8_all}
use Rattle.std.specs.List.{list_all}
use Rattle.std.specs.Str.{all_scalars}
use Rattle.bp_core.specs.declared.rectangle.Rect.{Rect}
use Rattle.bp_core.specs.declared.review.Treatment.{Treatment}
use Rattle.bp_bates.specs.declared.spans.Span.{Span}
use Rattle.bp_matter.specs.declared.rows.State.{State}
use Rattle.bp_matter.specs.declared.rows.State.TheVariants.{Uncalled, First, Confirmed}
use Rattle.bp_matter.specs.declared.rows.StaffRow.{StaffRow}
use Rattle.bp_matter.specs.declared.rows.FieldRow.{FieldRow}
use Rattle.bp_matter.specs.declared.rows.DocRow.{DocRow}
use Rattle.bp_rows.specs.Image.{Image}
use Rattle.bp_matter.specs.Images.{has_lines}
use Rattle.bp_matter.specs.declared.rows.PageRow.{PageRow}
use Rattle.bp_matter.specs.declared.rows.CallRow.{CallRow}
use Rattle.bp_matter.specs.declared.rows.BoxRow.{BoxRow}
use Rattle.bp_matter.specs.declared.rows.HeldRow.{HeldRow}
use Rattle.bp_matter.specs.declared.rows.DocBox.{DocBox}
use Rattle.bp_matter.specs.declared.rows.DocHeld.{DocHeld}
use Rattle.bp_matter.specs.declared.rows.Entry.{Entry}
use Rattle.bp_matter.specs.declared.rows.DocEntry.{DocEntry}
use Rattle.bp_matter.specs.declared.rows.PrefixRow.{PrefixRow}
use Rattle.bp_matter.specs.declared.rows.Request.{Request}
use Rattle.bp_matter.specs.declared.rows.Item.{Item}
use Rattle.bp_matter.specs.declared.rows.ProductionRow.{ProductionRow}
use Rattle.bp_matter.specs.declared.rows.BatchRow.{BatchRow}
use Rattle.bp_text.specs.declared.words.Word.{Word}
use Rattle.bp_matter.specs.declared.rows.PageWords.{PageWords}
use Rattle.bp_matter.specs.Fields.{treatment_number, editor_number, confirmer_number}

-- a number of 32 bits
abbrev pub is_word : ℕ → Bool
is_word n = nat_lt n (2 ^ 32)

-- a number of 64 bits
abbrev pub is_long : ℕ → Bool
is_long n = nat_lt n (2 ^ 64)

-- a text of fewer than 2^32 bytes
abbrev pub is_short : List ℕ → Bool
is_short characters = all_scalars characters && is_word (length (encode_utf8_all characters))

-- fewer than 2^32 values that have a writing
abbrev pub are_few : {V : Type 0} → (V → Bool) → List V → Bool
are_few is_written values = list_all is_written values && is_word (length values)

-- a value that is there has a writing
abbrev pub if_there : {V : Type 0} → (V → Bool) → Option V → Bool
if_there is_written None = true
if_there is_written (Some v) = is_written v

-- called, and where confirmed by somebody: 0 is nobody
abbrev pub is_called : State → Bool
is_called Uncalled = false
is_called (First _) = true
is_called (Confirmed _ confirmer) = not (confirmer.0 == 0)

-- a called state
abbrev pub state_written : State → Bool
state_written s = is_called s && (is_word (editor_number s) && is_word (confirmer_number s))

-- a treatment that has a number
abbrev pub treatment_written : Treatment → Bool
treatment_written t = nat_lt (treatment_number t) 4

-- parts of bodies
abbrev pub rect_written : Rect → Bool
rect_written r = is_word r.left && (is_word r.top && (is_word r.width && is_word r.height))

-- the numbers of a span fit
abbrev pub span_written : Span → Bool
span_written s = is_long s.first && is_long s.last

-- the texts of a log entry fit
abbrev pub entry_fields_written : Entry → Bool
entry_fields_written e =
    is_short e.date && (is_short e.author && (is_short e.recipients && is_short e.description))

-- the numbers of a box fit
abbrev pub box_row_written : BoxRow → Bool
box_row_written b = is_word b.num && (is_word b.page.0 && rect_written b.rect)

-- the number of a held field fits
abbrev pub held_row_written : HeldRow → Bool
held_row_written h = is_word h.field

-- a word fits
abbrev pub word_written : Word → Bool
word_written w = is_word w.line && (rect_written w.rect && is_short w.text)

-- an item fits
abbrev pub item_written : Item → Bool
item_written i =
    is_word i.doc.0 && (is_word i.parent.0 && (treatment_written i.treatment
    && (are_few box_row_written i.boxes && (are_few held_row_written i.held
    && (if_there entry_fields_written i.entry && (is_short i.designation
    && span_written i.span))))))

-- a request fits
abbrev pub request_written : Request → Bool
request_written r =
    is_short r.id && (is_short r.volume && (is_short r.prefix.text && (is_word r.from.0
    && (is_word r.to.0 && are_few is_short r.fields))))

-- from the first number of the first item to the last number of the last
abbrev pub last_number : ℕ → List Item → ℕ
last_number last [] = last
last_number last (i ∷ items) = last_number i.span.last items

-- the first number of the first item
abbrev pub first_number : List Item → ℕ
first_number [] = 0
first_number (i ∷ items) = i.span.first

-- the span from the first item to the last
abbrev pub span_of : List Item → Span
span_of items = record { first = first_number items; last = last_number 0 items }

-- two spans are the same
abbrev pub same_span : Span → Span → Bool
same_span s t = (s.first == t.first) && (s.last == t.last)

-- rows of each kind
abbrev pub staff_written : StaffRow → Bool
staff_written row = is_word row.staff.0 && ((length row.digest == 32) && is_short row.name)

-- a field fits
abbrev pub field_written : FieldRow → Bool
field_written row = is_word row.field && is_short row.name

-- a document fits
abbrev pub doc_written : DocRow → Bool
doc_written row =
    is_word row.doc.0 && (is_word row.parent.0 && (is_word row.pages && (is_word row.batch
    && (is_short row.id && are_few is_short row.values))))

-- an image of allowed sides, with rows of these sides
abbrev pub image_written : Image → Bool
image_written p =
    is_word p.width && (is_word p.height && (is_word p.xres.num && (is_word p.xres.den
    && (is_word p.yres.num && (is_word p.yres.den && has_lines p.width p.height p.rows)))))

-- a page fits
abbrev pub page_written : PageRow → Bool
page_written row = is_word row.doc.0 && (is_word row.page.0 && image_written row.image)

-- a call fits
abbrev pub call_written : CallRow → Bool
call_written row =
    is_word row.doc.0 && (state_written row.state && (treatment_written row.treatment
    && is_short row.designation))

-- a box of a document fits
abbrev pub box_written : DocBox → Bool
box_written box = is_word box.doc.0 && box_row_written box.row

-- a held field of a document fits
abbrev pub held_written : DocHeld → Bool
held_written held = is_word held.doc.0 && held_row_written held.row

-- the log entry of a document fits
abbrev pub entry_written : DocEntry → Bool
entry_written row = is_word row.doc.0 && entry_fields_written row.entry

-- a prefix fits
abbrev pub prefix_written : PrefixRow → Bool
prefix_written row = is_word row.num && (is_long row.next && is_short row.prefix.text)

-- a production fits, and its span is that of its items
abbrev pub production_written : ProductionRow → Bool
production_written row =
    is_word row.num && (request_written row.production.request
    && (are_few item_written row.production.items
    && same_span row.production.span (span_of row.production.items)))

-- a batch fits
abbrev pub batch_written : BatchRow → Bool
batch_written row =
    is_word row.num && ((length row.digest == 32) && (is_word row.documents && (is_word row.pages
    && is_short row.name)))

-- the words of a page fit
abbrev pub words_written : PageWords → Bool
words_written row = is_word row.doc.0 && (is_word row.page.0 && are_few word_written row.words)
