-- Two matters that show the same of a production: what is boxed, held or withheld may differ.
use Rattle.std.specs.Prelude.{◌≡◌, ℕ, ◌-◌, ◌≤◌, false, List, [], All, Option, Some, None, filter, map, ◌==◌, slice_index_or}
use Rattle.std.specs.List.{find}
use Rattle.bp_core.specs.declared.rectangle.Rect.{Rect}
use Rattle.bp_rows.specs.Burned.{AgreeOutside}
use Rattle.bp_rows.specs.Image.{Image}
use Rattle.bp_text.specs.Kept.{kept_of}
use Rattle.bp_text.specs.declared.words.Word.{Word}
use Rattle.bp_matter.specs.LookUps.{doc_with, field_with, of_row, page_with, words_with}
use Rattle.bp_matter.specs.Matter.{Matter}
use Rattle.bp_matter.specs.Treatments.{is_withheld}
use Rattle.bp_matter.specs.declared.rows.BoxRow.{BoxRow}
use Rattle.bp_matter.specs.declared.rows.HeldRow.{HeldRow}
use Rattle.bp_matter.specs.declared.rows.Item.{Item}
use Rattle.bp_matter.specs.declared.rows.Production.{Production}
use Rattle.bp_freeze.specs.Seeing.{page_count}

-- the boxes on a page of an item
abbrev pub rects_on : List BoxRow → ℕ → List Rect
rects_on boxes page = map (λ box. box.rect) (filter (λ box. box.page.0 == page) boxes)

-- the held field of that number
abbrev pub held_of_number : List HeldRow → ℕ → Option HeldRow
held_of_number held field = find (λ row. row.field == field) held

-- the number of the field of that name
abbrev pub field_number : Matter → List ℕ → Option ℕ
field_number m name = of_row (λ row. row.field) (field_with name m)

-- the value of a document in a field; a field that came after it is empty
abbrev pub value_of_field : Matter → ℕ → ℕ → Option (List ℕ)
value_of_field m doc field =
    of_row (λ row. slice_index_or row.values (field - 1) []) (doc_with doc m)

-- two pages that may not be there agree outside the rectangles
abbrev pub PagesAgree : List Rect → Option Image → Option Image → Type 0
PagesAgree rects None None = Unit {0}
PagesAgree rects (Some p) (Some q) = AgreeOutside rects p q
PagesAgree rects _ _ = ⊥

-- the words that the boxes leave, if the page is there
abbrev pub kept_words : Matter → ℕ → ℕ → List Rect → Option (List Word)
kept_words m doc page rects = of_row (λ row. kept_of row.words rects) (words_with doc page m)

-- a page of an item shows the same
pub record PageAgrees (m n : Matter) (i : Item) (page : ℕ) : Type 0 where
  pub image : PagesAgree (rects_on i.boxes page)
      (of_row (λ row. row.image) (page_with i.doc.0 page m))
      (of_row (λ row. row.image) (page_with i.doc.0 page n))
  pub words : kept_words m i.doc.0 page (rects_on i.boxes page)
      ≡ kept_words n i.doc.0 page (rects_on i.boxes page)

-- its document has the same value in a field, unless the item holds it
abbrev pub ValueAgrees : Matter → Matter → Item → List ℕ → Type 0
ValueAgrees m n i name =
    (field : ℕ) → field_number m name ≡ Some field → held_of_number i.held field ≡ None
    → value_of_field m i.doc.0 field ≡ value_of_field n i.doc.0 field

-- an item shows the same
pub record ItemAgrees (f : Production) (m n : Matter) (i : Item) : Type 0 where
  pub counts : page_count m i.doc.0 ≡ page_count n i.doc.0
  pub pages : (page : ℕ) → 1 ≤ page → page ≤ page_count m i.doc.0 → PageAgrees m n i page
  pub values : All (ValueAgrees m n i) f.request.fields

-- the two matters show the same of the production; of a withheld item nothing is asked
pub record Agree (f : Production) (m n : Matter) : Type 0 where
  pub numbers : All (λ name. field_number m name ≡ field_number n name) f.request.fields
  pub items : All (λ i. is_withheld i.treatment ≡ false → ItemAgrees f m n i) f.items
