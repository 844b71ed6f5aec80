-- What a volume shows of an item. A withheld item shows nothing of the matter: its content is a
-- function of the production alone.
use Rattle.std.specs.Prelude.{ℕ, ◌+◌, ◌-◌, ◌==◌, filter, List, [], ◌∷◌, ◌++◌, map, codes, Option, Some, None, unwrap_or}
use Rattle.std.specs.List.{flat_map, range_with_len}
use Rattle.bp_core.specs.Characters.{form_feed, line_end}
use Rattle.bp_core.specs.Review.{basis_code}
use Rattle.bp_core.specs.declared.stamps.Stamp.{Stamp}
use Rattle.bp_core.specs.declared.review.Basis.{Basis}
use Rattle.bp_core.specs.declared.review.Treatment.{Treatment}
use Rattle.bp_core.specs.declared.review.Treatment.TheVariants.{Withhold}
use Rattle.bp_rows.specs.Image.{Image, white_image}
use Rattle.bp_burn.specs.Band.{produced_of, slip_of, slip_resolution, slip_text}
use Rattle.bp_rows.specs.declared.resolution.Unit.TheVariants.{Inch}
use Rattle.bp_text.specs.PageText.{page_text_of}
use Rattle.bp_matter.specs.LookUps.{of_row, page_with}
use Rattle.bp_matter.specs.Matter.{Matter}
use Rattle.bp_matter.specs.declared.rows.BoxRow.{BoxRow}
use Rattle.bp_matter.specs.declared.rows.HeldRow.{HeldRow}
use Rattle.bp_matter.specs.declared.rows.Item.{Item}
use Rattle.bp_matter.specs.declared.rows.Production.{Production}
use Rattle.bp_matter.specs.declared.rows.Request.{Request}
use Rattle.bp_freeze.specs.Agree.{field_number, held_of_number, kept_words, rects_on, value_of_field}
use Rattle.bp_freeze.specs.Log.{label_in}
use Rattle.bp_freeze.specs.Seeing.{page_count}

-- its images, its text, and its values of the chosen fields
-- by FRCP 26(b)(5)(A)
pub record Content : Type 0 where
  pub images : List Image
  pub text : List ℕ
  pub values : List (List ℕ)

-- ---- of an item that is withheld

-- how many labels an item has: a freeze gives one that is withheld a single label
-- by Concordance DAT, Opticon OPT
abbrev pub label_count : Item → ℕ
label_count i = i.span.last + 1 - i.span.first

-- the sheet that stands for it under a label, which are counted from 0
-- by FRCP 26(b)(5)(A)
unfoldable pub slip_sheet : Request → Item → Basis → ℕ → Image
slip_sheet q i basis k = slip_of basis (label_in q.prefix (i.span.first + k)) i.designation

-- a sheet for each of its labels
-- by FRCP 26(b)(5)(A)
abbrev pub slip_sheets : Request → Item → Basis → List Image
slip_sheets q i basis = map (slip_sheet q i basis) (range_with_len 0 (label_count i))

-- the text of that sheet
-- by FRCP 26(b)(5)(A)
abbrev pub withheld_text : Basis → List ℕ
withheld_text basis = slip_text basis ++ line_end ++ form_feed ∷ []

-- each chosen field is empty
-- by FRCP 26(b)(5)(A)
abbrev pub withheld_content : Request → Item → Basis → Content
withheld_content q i basis = record {
  images = slip_sheets q i basis;
  text = withheld_text basis;
  values = map (λ name. []) q.fields;
}

-- ---- of an item that isn't

-- a page of a document; one that isn't there has no pixels
abbrev pub page_image : Matter → ℕ → ℕ → Image
page_image m doc page =
    unwrap_or (of_row (λ row. row.image) (page_with doc page m))
    (white_image 0 0 slip_resolution slip_resolution Inch)

-- a box with its ground
abbrev pub stamp_of : BoxRow → Stamp
stamp_of box = record { rect = box.rect; basis = box.basis }

-- those of an item on a page
abbrev pub stamps_on : List BoxRow → ℕ → List Stamp
stamps_on boxes page = map stamp_of (filter (λ box. box.page.0 == page) boxes)

-- its page of that number, its boxes in the ink of its production, with its label and its designation
-- by FRCP 26(b)(5)(A)
unfoldable pub produced_page : Production → Matter → Item → ℕ → Image
produced_page f m i page =
    produced_of f.ink (page_image m i.doc.0 page) (stamps_on i.boxes page)
    (label_in f.request.prefix (i.span.first + page - 1)) i.designation

-- the words of that page which no box touches
-- by FRCP 26(b)(5)(A)
abbrev pub kept_text : Matter → Item → ℕ → List ℕ
kept_text m i page =
    page_text_of (unwrap_or (kept_words m i.doc.0 page (rects_on i.boxes page)) [])

-- what stands for a value that is held
-- by FRCP 26(b)(5)(A)
abbrev pub held_text : HeldRow → List ℕ
held_text held = codes "WITHHELD - " ++ basis_code held.basis

-- a value that isn't held stands for itself
abbrev pub value_unless : Option HeldRow → Option (List ℕ) → List ℕ
value_unless (Some held) value = held_text held
value_unless None value = unwrap_or value []

-- what is shown of a field, if there is one
-- by FRCP 26(b)(5)(A)
abbrev pub value_by : Matter → Item → Option ℕ → List ℕ
value_by m i None = []
value_by m i (Some field) =
    value_unless (held_of_number i.held field) (value_of_field m i.doc.0 field)

-- what is shown of the field of a name
-- by FRCP 26(b)(5)(A)
abbrev pub value_shown : Matter → Item → List ℕ → List ℕ
value_shown m i name = value_by m i (field_number m name)

-- the numbers of the pages of a document
abbrev pub pages_of : Matter → ℕ → List ℕ
pages_of m doc = range_with_len 1 (page_count m doc)

-- the images, text and values of an item that is produced
-- by FRCP 26(b)(5)(A)
abbrev pub produced_content : Production → Matter → Item → Content
produced_content f m i = record {
  images = map (produced_page f m i) (pages_of m i.doc.0);
  text = flat_map (kept_text m i) (pages_of m i.doc.0);
  values = map (value_shown m i) f.request.fields;
}

-- ---- of each

-- the ground on which a whole document is withheld
-- by FRCP 26(b)(5)(A)
abbrev pub ground_of : Treatment → Option Basis
ground_of (Withhold basis) = Some basis
ground_of _ = None

-- the content of an item, by whether it is withheld
-- by FRCP 26(b)(5)(A)
abbrev pub content_by : Production → Matter → Item → Option Basis → Content
content_by f m i (Some basis) = withheld_content f.request i basis
content_by f m i None = produced_content f m i

-- the value in the column of a chosen field: of a withheld item it is empty
-- by FRCP 26(b)(5)(A)
abbrev pub value_in_column : Matter → Item → Option Basis → List ℕ → List ℕ
value_in_column m i (Some basis) name = []
value_in_column m i None name = value_shown m i name

-- an item, and what a volume shows of it
-- by FRCP 26(b)(5)(A)
pub record ItemShown : Type 0 where
  pub item : Item
  pub content : Content

-- an item and its content
-- by FRCP 26(b)(5)(A)
abbrev pub part_of : Production → Matter → Item → ItemShown
part_of f m i = record { item = i; content = content_by f m i (ground_of i.treatment) }
