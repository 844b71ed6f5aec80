-- Reading bodies from left to right: a value and the bytes after it, or nothing where no value is
-- written so.
use Rattle.std.specs.Prelude.{◌≡◌, ℕ, zero, suc, Bool, true, false, List, [], ◌∷◌, ◌++◌, length, take, drop, Option, Some, None, Result, Ok, Err, nat_lt, ◌==◌, ◌&&◌, not, if◌then◌else◌, option_and_then}
use Rattle.std.specs.Int.{w32, w64, from_le_bytes}
use Rattle.std.specs.Str.{chars, is_utf8}
use Rattle.bp_core.specs.declared.review.Basis.{Basis}
use Rattle.bp_core.specs.declared.review.Basis.TheVariants.{Ac, Wp, Pi, Ts}
use Rattle.bp_core.specs.declared.review.Role.{Role}
use Rattle.bp_core.specs.declared.review.Role.TheVariants.{Reviewer, Second, Lead, Clerk, Receiver}
use Rattle.bp_core.specs.declared.review.Treatment.{Treatment}
use Rattle.bp_core.specs.declared.review.Treatment.TheVariants.{Produce, Redact, Withhold}
use Rattle.bp_core.specs.declared.rectangle.Rect.{Rect}
use Rattle.bp_core.specs.declared.stamps.Ink.{Ink}
use Rattle.bp_core.specs.declared.stamps.Ink.TheVariants.{Black, Lettered}
use Rattle.bp_bates.specs.declared.prefixes.Prefix.{Prefix}
use Rattle.bp_bates.specs.declared.spans.Span.{Span}
use Rattle.bp_rows.specs.Image.{Image}
use Rattle.bp_rows.specs.declared.resolution.Unit.{Unit as LengthUnit}
use Rattle.bp_rows.specs.declared.resolution.Unit.TheVariants as units
use Rattle.bp_matter.specs.Images.{lines_of}
use Rattle.bp_matter.specs.Written.{span_of}
use Rattle.bp_matter.specs.declared.rows.State.{State}
use Rattle.bp_matter.specs.declared.rows.State.TheVariants.{First, Confirmed}
use Rattle.bp_matter.specs.declared.rows.StaffRow.{StaffRow}
use Rattle.bp_matter.specs.declared.rows.FieldRow.{FieldRow}
use Rattle.bp_matter.specs.declared.rows.DocRow.{DocRow}
use Rattle.bp_matter.specs.declared.rows.PageRow.{PageRow}
use Rattle.bp_matter.specs.declared.rows.CallRow.{CallRow}
use Rattle.bp_matter.specs.declared.rows.BoxRow.{BoxRow}
use Rattle.bp_matter.specs.declared.rows.HeldRow.{HeldRow}
use Rattle.bp_matter.specs.declared.rows.DocBox.{DocBox}
use Rattle.bp_matter.specs.declared.rows.DocHeld.{DocHeld}
use Rattle.bp_matter.specs.declared.rows.Entry.{Entry}
use Rattle.bp_matter.specs.declared.rows.DocEntry.{DocEntry}
use Rattle.bp_matter.specs.declared.rows.PrefixRow.{PrefixRow}
use Rattle.bp_matter.specs.declared.rows.Request.{Request}
use Rattle.bp_matter.specs.declared.rows.Item.{Item}
use Rattle.bp_matter.specs.declared.rows.ProductionRow.{ProductionRow}
use Rattle.bp_matter.specs.declared.rows.BatchRow.{BatchRow}
use Rattle.bp_text.specs.declared.words.Word.{Word}
use Rattle.bp_matter.specs.declared.rows.PageWords.{PageWords}
use Rattle.bp_matter.specs.declared.read_fault.ReadFault.{ReadFault}
use Rattle.bp_matter.specs.declared.read_fault.ReadFault.TheVariants as faults

-- a value, and the bytes after it
abbrev pub Read : Type 0 → Type 0
Read V = Option (V × List ℕ)

infixl 10 ◌>>=◌
-- what the value of the first gives
abbrev pub ◌>>=◌ : {A B : Type 0} → Option A → (A → Option B) → Option B
o >>= f = option_and_then f o

-- what a function returned, seen by view, is what reading gives, unless memory ran out
abbrev pub Fails : {Y : Type 0} → ReadFault → Option Y → Type 0
Fails faults.OutOfMemory read = Unit {0}
Fails faults.Malformed read = read ≡ None

-- the same of a value, seen by view
abbrev pub Gives : {X Y : Type 0} → (X → Y) → Result X ReadFault → Option Y → Type 0
Gives view (Ok x) read = read ≡ Some (view x)
Gives view (Err fault) read = Fails fault read

-- ---- fields

-- a number of 8 bits
abbrev pub u8_at : List ℕ → Read ℕ
u8_at [] = None
u8_at (b ∷ bytes) = Some (b, bytes)

-- a number of 32 bits
abbrev pub u32_at : List ℕ → Read ℕ
u32_at bytes =
    if nat_lt (length bytes) 4 then None
    else Some (from_le_bytes w32 (take 4 bytes), drop 4 bytes)

-- a number of 64 bits
abbrev pub u64_at : List ℕ → Read ℕ
u64_at bytes =
    if nat_lt (length bytes) 8 then None
    else Some (from_le_bytes w64 (take 8 bytes), drop 8 bytes)

-- the characters of so many bytes
abbrev pub characters_at : ℕ → List ℕ → Read (List ℕ)
characters_at n bytes =
    if nat_lt (length bytes) n then None else (if is_utf8 (take n bytes)
    then Some (chars (take n bytes), drop n bytes) else None)

-- a text after its length
unfoldable pub text_at : List ℕ → Read (List ℕ)
text_at bytes = do
  n ← u32_at bytes
  characters_at n.0 n.1

-- a value of a byte, where it has one
abbrev pub value_of_byte : {V : Type 0} → (ℕ → Option V) → List ℕ → Read V
value_of_byte value bytes = do
  b ← u8_at bytes
  v ← value b.0
  Some (v, b.1)

-- the version
abbrev pub one_of : ℕ → Option (Unit {0})
one_of n = if n == 1 then Some tt else None

-- the values of a byte
abbrev pub flag_of_byte : ℕ → Option Bool
flag_of_byte n = if n == 0 then Some false else (if n == 1 then Some true else None)

-- the ground of a byte
abbrev pub basis_of : ℕ → Option Basis
basis_of n =
    if n == 0 then Some Ac else (if n == 1 then Some Wp else (if n == 2 then Some Pi
    else (if n == 3 then Some Ts else None)))

-- the treatment of a byte
abbrev pub treatment_of_byte : ℕ → Option Treatment
treatment_of_byte n =
    if n == 0 then Some Produce else (if n == 1 then Some Redact else (if n == 2
    then Some (Withhold Ac) else (if n == 3 then Some (Withhold Wp) else None)))

-- the role of a byte
abbrev pub role_of : ℕ → Option Role
role_of n =
    if n == 0 then Some Reviewer else (if n == 1 then Some Second else (if n == 2 then Some Lead
    else (if n == 3 then Some Clerk else (if n == 4 then Some Receiver else None))))

-- the ink of a byte
abbrev pub ink_of : ℕ → Option Ink
ink_of n = if n == 1 then Some Black else (if n == 2 then Some Lettered else None)

-- the unit of a byte
abbrev pub unit_of_byte : ℕ → Option LengthUnit
unit_of_byte n =
    if n == 1 then Some units.None else (if n == 2 then Some units.Inch else (if n == 3
    then Some units.Centimetre else None))

-- so many bytes as they are
abbrev pub bytes_at : ℕ → List ℕ → Read (List ℕ)
bytes_at n bytes = if nat_lt (length bytes) n then None else Some (take n bytes, drop n bytes)

-- so many values one after the other
unfoldable pub many_at : {V : Type 0} → (List ℕ → Read V) → ℕ → List ℕ → Read (List V)
many_at read zero bytes = Some ([], bytes)
many_at read (suc n) bytes = do
  first ← read bytes
  others ← many_at read n first.1
  Some (first.0 ∷ others.0, others.1)

-- with the values read before
abbrev pub many_on : {V : Type 0} → List V → Read (List V) → Read (List V)
many_on before None = None
many_on before (Some x) = Some (before ++ x.0, x.1)

-- a list after its count
abbrev pub list_at : {V : Type 0} → (List ℕ → Read V) → List ℕ → Read (List V)
list_at read bytes = do
  n ← u32_at bytes
  many_at read n.0 n.1

-- a called state
abbrev pub state_of : ℕ → ℕ → ℕ → Option State
state_of n editor confirmer =
    if (n == 1) && (confirmer == 0) then Some (First (record { 0 = editor })) else (if (n == 2)
    && not (confirmer == 0)
    then Some (Confirmed (record { 0 = editor }) (record { 0 = confirmer })) else None)

-- a state of a call
unfoldable pub state_at : List ℕ → Read State
state_at bytes = do
  n ← u8_at bytes
  editor ← u32_at n.1
  confirmer ← u32_at editor.1
  state ← state_of n.0 editor.0 confirmer.0
  Some (state, confirmer.1)

-- 0, or 1 and a value
abbrev pub value_there : {V : Type 0} → (List ℕ → Read V) → Bool → List ℕ → Read (Option V)
value_there read false bytes = Some (None, bytes)
value_there read true bytes = do
  v ← read bytes
  Some (Some v.0, v.1)

-- a flag, and a value where it is 1
unfoldable pub optional_at : {V : Type 0} → (List ℕ → Read V) → List ℕ → Read (Option V)
optional_at read bytes = do
  there ← value_of_byte flag_of_byte bytes
  value_there read there.0 there.1

-- parts that several bodies share
unfoldable pub rect_at : List ℕ → Read Rect
rect_at bytes = do
  left ← u32_at bytes
  top ← u32_at left.1
  width ← u32_at top.1
  height ← u32_at width.1
  Some (record { left = left.0; top = top.0; width = width.0; height = height.0 }, height.1)

-- a span at the front of bytes
unfoldable pub span_at : List ℕ → Read Span
span_at bytes = do
  first ← u64_at bytes
  last ← u64_at first.1
  Some (record { first = first.0; last = last.0 }, last.1)

-- a prefix at the front of bytes
unfoldable pub prefix_at : List ℕ → Read Prefix
prefix_at bytes = do
  text ← text_at bytes
  width ← u8_at text.1
  Some (record { text = text.0; width = width.0 }, width.1)

-- ---- parts of bodies

-- the parts of an entry
unfoldable pub entry_fields_at : List ℕ → Read Entry
entry_fields_at bytes = do
  date ← text_at bytes
  author ← text_at date.1
  recipients ← text_at author.1
  description ← text_at recipients.1
  Some (
    record {
      date = date.0;
      author = author.0;
      recipients = recipients.0;
      description = description.0;
    },
    description.1,
  )

-- the box of that number
unfoldable pub box_rest_at : ℕ → List ℕ → Read BoxRow
box_rest_at num bytes = do
  page ← u32_at bytes
  rect ← rect_at page.1
  basis ← value_of_byte basis_of rect.1
  Some (record { num = num; page = record { 0 = page.0 }; rect = rect.0; basis = basis.0 }, basis.1)

-- a box with its number
unfoldable pub box_part_at : List ℕ → Read BoxRow
box_part_at bytes = do
  num ← u32_at bytes
  box_rest_at num.0 num.1

-- a held field with its number
unfoldable pub held_part_at : List ℕ → Read HeldRow
held_part_at bytes = do
  field ← u32_at bytes
  basis ← value_of_byte basis_of field.1
  Some (record { field = field.0; basis = basis.0 }, basis.1)

-- a word of a page
unfoldable pub word_part_at : List ℕ → Read Word
word_part_at bytes = do
  line ← u32_at bytes
  rect ← rect_at line.1
  text ← text_at rect.1
  Some (record { line = line.0; rect = rect.0; text = text.0 }, text.1)

-- an item of a production
unfoldable pub item_at : List ℕ → Read Item
item_at bytes = do
  doc ← u32_at bytes
  parent ← u32_at doc.1
  treatment ← value_of_byte treatment_of_byte parent.1
  boxes ← list_at box_part_at treatment.1
  held ← list_at held_part_at boxes.1
  entry ← optional_at entry_fields_at held.1
  designation ← text_at entry.1
  span ← span_at designation.1
  Some (
    record {
      doc = record { 0 = doc.0 };
      parent = record { 0 = parent.0 };
      treatment = treatment.0;
      boxes = boxes.0;
      held = held.0;
      entry = entry.0;
      designation = designation.0;
      span = span.0;
    },
    span.1,
  )

-- what a production was asked for
unfoldable pub request_at : List ℕ → Read Request
request_at bytes = do
  id ← text_at bytes
  volume ← text_at id.1
  prefix ← prefix_at volume.1
  from ← u32_at prefix.1
  to ← u32_at from.1
  fields ← list_at text_at to.1
  Some (
    record {
      id = id.0;
      volume = volume.0;
      prefix = prefix.0;
      from = record { 0 = from.0 };
      to = record { 0 = to.0 };
      fields = fields.0;
    },
    fields.1,
  )

-- ---- bodies, of the rows of that key

-- a member of the staff by number and body
unfoldable pub staff_at : ℕ → List ℕ → Read StaffRow
staff_at staff bytes = do
  version ← value_of_byte one_of bytes
  role ← value_of_byte role_of version.1
  digest ← bytes_at 32 role.1
  name ← text_at digest.1
  Some (
    record {
      staff = record { 0 = staff };
      role = role.0;
      digest = digest.0;
      name = name.0;
    },
    name.1,
  )

-- a field by number and body
unfoldable pub field_at : ℕ → List ℕ → Read FieldRow
field_at field bytes = do
  version ← value_of_byte one_of bytes
  name ← text_at version.1
  Some (record { field = field; name = name.0 }, name.1)

-- a document by number and body
unfoldable pub doc_at : ℕ → List ℕ → Read DocRow
doc_at doc bytes = do
  version ← value_of_byte one_of bytes
  parent ← u32_at version.1
  pages ← u32_at parent.1
  batch ← u32_at pages.1
  id ← text_at batch.1
  values ← list_at text_at id.1
  Some (
    record {
      doc = record { 0 = doc };
      parent = record { 0 = parent.0 };
      pages = pages.0;
      batch = batch.0;
      id = id.0;
      values = values.0;
    },
    values.1,
  )

-- an image whose strip is all that is left
unfoldable pub image_left : List ℕ → Option Image
image_left bytes = do
  width ← u32_at bytes
  height ← u32_at width.1
  xres_num ← u32_at height.1
  xres_den ← u32_at xres_num.1
  yres_num ← u32_at xres_den.1
  yres_den ← u32_at yres_num.1
  unit ← value_of_byte unit_of_byte yres_den.1
  lines ← lines_of width.0 height.0 unit.1
  Some (record {
    width = width.0;
    height = height.0;
    xres = record {
      num = xres_num.0;
      den = xres_den.0;
    };
    yres = record { num = yres_num.0; den = yres_den.0 };
    unit = unit.0;
    rows = lines;
  })

-- a page by its numbers and body
unfoldable pub page_at : ℕ → ℕ → List ℕ → Option PageRow
page_at doc page bytes = do
  version ← value_of_byte one_of bytes
  image ← image_left version.1
  Some (record { doc = record { 0 = doc }; page = record { 0 = page }; image = image })

-- a call by document and body
unfoldable pub call_at : ℕ → List ℕ → Read CallRow
call_at doc bytes = do
  version ← value_of_byte one_of bytes
  state ← state_at version.1
  responsive ← value_of_byte flag_of_byte state.1
  treatment ← value_of_byte treatment_of_byte responsive.1
  designation ← text_at treatment.1
  Some (
    record {
      doc = record { 0 = doc };
      state = state.0;
      responsive = responsive.0;
      treatment = treatment.0;
      designation = designation.0;
    },
    designation.1,
  )

-- a box by its numbers and body
unfoldable pub box_at : ℕ → ℕ → List ℕ → Read DocBox
box_at doc num bytes = do
  version ← value_of_byte one_of bytes
  row ← box_rest_at num version.1
  Some (record { doc = record { 0 = doc }; row = row.0 }, row.1)

-- a held field by its numbers and body
unfoldable pub held_at : ℕ → ℕ → List ℕ → Read DocHeld
held_at doc field bytes = do
  version ← value_of_byte one_of bytes
  basis ← value_of_byte basis_of version.1
  Some (
    record {
      doc = record { 0 = doc };
      row = record {
        field = field;
        basis = basis.0;
      };
    },
    basis.1,
  )

-- a log entry by document and body
unfoldable pub log_entry_at : ℕ → List ℕ → Read DocEntry
log_entry_at doc bytes = do
  version ← value_of_byte one_of bytes
  entry ← entry_fields_at version.1
  Some (record { doc = record { 0 = doc }; entry = entry.0 }, entry.1)

-- a prefix by number and body
unfoldable pub prefix_row_at : ℕ → List ℕ → Read PrefixRow
prefix_row_at num bytes = do
  version ← value_of_byte one_of bytes
  width ← u8_at version.1
  next ← u64_at width.1
  text ← text_at next.1
  Some (
    record {
      num = num;
      prefix = record { text = text.0; width = width.0 };
      next = next.0;
    },
    text.1,
  )

-- a production by number and body, whose version is its ink
unfoldable pub production_at : ℕ → List ℕ → Read ProductionRow
production_at num bytes = do
  ink ← value_of_byte ink_of bytes
  request ← request_at ink.1
  items ← list_at item_at request.1
  Some (
    record {
      num = num;
      production = record {
        ink = ink.0;
        request = request.0;
        items = items.0;
        span = span_of items.0;
      };
    },
    items.1,
  )

-- a batch by number and body
unfoldable pub batch_at : ℕ → List ℕ → Read BatchRow
batch_at num bytes = do
  version ← value_of_byte one_of bytes
  digest ← bytes_at 32 version.1
  documents ← u32_at digest.1
  pages ← u32_at documents.1
  name ← text_at pages.1
  Some (
    record {
      num = num;
      digest = digest.0;
      documents = documents.0;
      pages = pages.0;
      name = name.0;
    },
    name.1,
  )

-- the words of a page by its numbers and body
unfoldable pub words_at : ℕ → ℕ → List ℕ → Read PageWords
words_at doc page bytes = do
  version ← value_of_byte one_of bytes
  words ← list_at word_part_at version.1
  Some (record { doc = record { 0 = doc }; page = record { 0 = page }; words = words.0 }, words.1)
