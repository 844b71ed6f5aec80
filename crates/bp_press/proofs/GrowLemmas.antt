-- Rows that are added behind others don't change what is found, so the matter agrees with what it
-- was.
use Rattle.std.proofs.Common.{◌≡◌, ℕ, zero, suc, ◌-◌, ◌<◌, Bool, true, List, [], ◌∷◌, ◌++◌, length, map, get_or, Option, Some, None, refl, ap, sym, ◌∙◌, arith, eqb, inl, inr}
use Rattle.std.specs.List.{find, list_any}
use Rattle.std.specs.Prelude.{slice_index_or}
use Rattle.std.specs.Str.{bytes_eq}
use Rattle.std.proofs.lemmas.Bool.{cases_Bool}
use Rattle.bp_core.specs.Sorted.{find_key, two_keys}
use Rattle.bp_core.specs.declared.rectangle.Rect.{Rect}
use Rattle.bp_rows.specs.Image.{Image, pixel}
use Rattle.bp_text.specs.Kept.{kept_of}
use Rattle.bp_matter.specs.LookUps.{doc_with, of_row, page_with}
use Rattle.bp_matter.specs.Matter.{Matter, doc_key, page_key, words_key}
use Rattle.bp_matter.specs.Valid.{IsValid}
use Rattle.bp_matter.specs.ValidFields.{has_field}
use Rattle.bp_matter.specs.ValidItems.{item_fits}
use Rattle.bp_matter.specs.declared.rows.DocRow.{DocRow}
use Rattle.bp_matter.specs.declared.rows.FieldRow.{FieldRow}
use Rattle.bp_matter.specs.declared.rows.Item.{Item}
use Rattle.bp_matter.specs.declared.rows.PageRow.{PageRow}
use Rattle.bp_matter.specs.declared.rows.PageWords.{PageWords}
use Rattle.bp_matter.specs.declared.rows.Production.{Production}
use Rattle.bp_freeze.specs.Agree.{Agree, ItemAgrees, PagesAgree, field_number, rects_on}
use Rattle.bp_freeze.specs.Keeping.{GrowsTo, KeepsProduction}
use Rattle.bp_freeze.proofs.FrozenRangeLemmas.{page-counted}
use Rattle.bp_press.proofs.KeptPageLemmas.{counted, finds, item-doc, kept-fields, kept-items, page-there}

-- ---- lists

-- what is found is found first
found-first : {T : Type 0} (test : T → Bool) (rows more : List T) (row : T) → find test rows ≡ Some row → find test (rows ++ more) ≡ Some row
found-first test [] more row found = absurd cc
found-first test (first ∷ rows) more row found =
    elim (cases_Bool (test first)) [
      | inl here ↦ (
          let same : first ≡ row = cc in
          rw here (ap Some same))
      | inr later ↦ (
          let rest : find test rows ≡ Some row = cc in
          rw later (found-first test rows more row rest))
    ]

-- the same is found where there is something
same_find : {T : Type 0} (test : T → Bool) (rows more all : List T) → all ≡ rows ++ more → list_any test rows ≡ true → find test rows ≡ find test all
same_find test rows more all is any =
    let found = finds test rows any in
    found.1 ∙ sym (ap (find test) is ∙ found-first test rows more found.0 found.1)

same_at : (docs more : List DocRow) (k : ℕ) → k < length docs → slice_index_or (map (λ (r : DocRow). r.pages) docs) k 0 ≡ slice_index_or (map (λ (r : DocRow). r.pages) (docs ++ more)) k 0
same_at [] more k l = absurd (omega arith)
same_at (row ∷ docs) more zero l = refl
same_at (row ∷ docs) more (suc k) l = same_at docs more k (omega arith)

-- ---- pages

agrees_with_itself : (rects : List Rect) (o p : Option Image) → o ≡ p → PagesAgree rects o p
agrees_with_itself rects None None is = tt
agrees_with_itself rects None (Some q) is = absurd cc
agrees_with_itself rects (Some p) None is = absurd cc
agrees_with_itself rects (Some p) (Some q) is =
    let same : p ≡ q = cc in
    record {
      width = ap (λ (x : Image). x.width) same;
      height = ap (λ (x : Image). x.height) same;
      xres = ap (λ (x : Image). x.xres) same;
      yres = ap (λ (x : Image). x.yres) same;
      unit = ap (λ (x : Image). x.unit) same;
      pixels = λ r c down across out. ap (λ (x : Image). pixel x r c) same;
    }

-- ---- items

grown_item : (f : Production) (m n : Matter) (i : Item) → IsValid m → GrowsTo m n → item_fits (length m.fields) m.docs m.pages i ≡ true → ItemAgrees f m n i
grown_item f m n i valid grows fits =
    let doc : ℕ = i.doc.0 in
    let found = item-doc m i fits in
    let many = counted 1 doc found.0 m.docs valid.docs.numbered found.1 in
    let same_doc : doc_with doc m ≡ doc_with doc n = found.1 ∙ sym (ap (find_key doc_key doc) grows.more_docs ∙ found-first (λ (row : DocRow). eqb row.doc.0 doc) m.docs grows.docs found.0 found.1) in
    record {
      counts = page-counted m doc many.0
          ∙ same_at m.docs grows.docs (doc - 1) many.2
          ∙ sym (ap (λ (docs : List DocRow). slice_index_or (map (λ (r : DocRow). r.pages) docs) (doc - 1) 0) grows.more_docs)
          ∙ sym (page-counted n doc many.0);
      pages = λ page low high. record {
        image = agrees_with_itself (rects_on i.boxes page) (of_row (λ row. row.image) (page_with doc page m)) (of_row (λ row. row.image) (page_with doc page n))
            (ap (of_row (λ (row : PageRow). row.image)) (same_find (λ (row : PageRow). eqb (page_key row) (two_keys doc page)) m.pages grows.pages n.pages grows.more_pages (page-there page_key doc page found.0 m.docs m.pages valid.pages.paged found.1 low (omega (arith, page-counted m doc many.0, many.1, high)))));
        words = ap (of_row (λ (row : PageWords). kept_of row.words (rects_on i.boxes page))) (same_find (λ (row : PageWords). eqb (words_key row) (two_keys doc page)) m.words grows.words n.words grows.more_words (page-there words_key doc page found.0 m.docs m.words valid.words.paged found.1 low (omega (arith, page-counted m doc many.0, many.1, high))));
      };
      values = λ k d l field is free. ap (of_row (λ (row : DocRow). slice_index_or row.values (field - 1) [])) same_doc;
    }

grown_number : (m n : Matter) (name : List ℕ) → GrowsTo m n → has_field m.fields name ≡ true → field_number m name ≡ field_number n name
grown_number m n name grows has =
    ap (of_row (λ (row : FieldRow). row.field)) (same_find (λ (row : FieldRow). bytes_eq row.name name) m.fields grows.fields n.fields grows.more_fields has)

pub grown-agrees : (f : Production) (m n : Matter) → IsValid m → KeepsProduction m f → GrowsTo m n → Agree f m n
grown-agrees f m n valid kept grows = record {
  numbers = λ k d l. grown_number m n (get_or f.request.fields k d) grows (kept-fields m valid f kept k d l);
  items = λ k d l shown. grown_item f m n (get_or f.items k d) valid grows (kept-items m valid f kept k d l);
}
