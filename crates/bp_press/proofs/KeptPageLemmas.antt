-- Each page of an item that a valid matter keeps is there, and is one that can be written.
use Rattle.std.proofs.Common.{◌≡◌, ℕ, zero, suc, ◌+◌, ◌-◌, ◌≤◌, ◌<◌, ◌^◌, Bool, true, List, [], ◌∷◌, length, map, drop, get_or, All, Option, Some, None, refl, ap, sym, ◌∙◌, arith, eqb, inl, inr}
use Rattle.std.specs.List.{find, list_all, list_any}
use Rattle.std.specs.Prelude.{IsTrue, slice_index_or}
use Rattle.std.specs.Str.{bytes_eq}
use Rattle.std.proofs.lemmas.Bool.{and_parts, cases_Bool, eqb-true, eq-eqb, ltb-true, or_left, or_right}
use Rattle.bp_core.specs.Sorted.{find_key, two_keys}
use Rattle.bp_rows.specs.Image.{Image, IsPage}
use Rattle.bp_rows.specs.Limits.{sides_are_imported}
use Rattle.bp_matter.specs.LookUps.{of_row, page_with}
use Rattle.bp_matter.specs.Matter.{Matter, doc_key, page_key}
use Rattle.bp_matter.specs.Valid.{IsValid}
use Rattle.bp_matter.specs.ValidItems.{item_fits, item_of}
use Rattle.bp_matter.specs.ValidPages.{are_paged, has_rows, page_fits}
use Rattle.bp_matter.specs.ValidProductions.{field_chosen, itself, production_fits, request_fits}
use Rattle.bp_core.specs.Differing.{all_differ}
use Rattle.bp_matter.specs.ValidRows.{is_numbered}
use Rattle.bp_matter.specs.ValidFields.{has_field}
use Rattle.bp_matter.specs.Written.{image_written, page_written}
use Rattle.bp_matter.specs.declared.rows.DocRow.{DocRow}
use Rattle.bp_matter.specs.declared.rows.Item.{Item}
use Rattle.bp_matter.specs.declared.rows.PageRow.{PageRow}
use Rattle.bp_matter.specs.declared.rows.Production.{Production}
use Rattle.bp_matter.specs.declared.rows.ProductionRow.{ProductionRow}
use Rattle.bp_matter.proofs.ImageLemmas.{plain_page}
use Rattle.bp_freeze.specs.Keeping.{KeepsProduction}
use Rattle.bp_freeze.specs.Seeing.{page_count}
use Rattle.bp_freeze.proofs.FrozenRangeLemmas.{page-counted}
use Rattle.bp_press.specs.Contents.{page_image}

-- ---- lists

-- a member that is found passes what all pass
pub passes : {T : Type 0} (test fits : T → Bool) (rows : List T) (row : T) → find test rows ≡ Some row → list_all fits rows ≡ true → fits row ≡ true
passes test fits [] row found all = absurd cc
passes test fits (first ∷ rows) row found all =
    let parts = and_parts (fits first) (list_all fits rows) all in
    elim (cases_Bool (test first)) [
      | inl same_key ↦ (
          let same : first ≡ row = cc in
          ap fits (sym same) ∙ parts.0)
      | inr other ↦ (
          let later : find test rows ≡ Some row = cc in
          passes test fits rows row later parts.1)
    ]

-- what is there is found
pub finds : {T : Type 0} (test : T → Bool) (rows : List T) → list_any test rows ≡ true → (row : T) × (find test rows ≡ Some row)
finds test [] any = absurd cc
finds test (first ∷ rows) any =
    elim (cases_Bool (test first)) [
      | inl same_key ↦ (first, rw same_key refl)
      | inr other ↦ (
          let later : list_any test rows ≡ true = cc in
          let rest = finds test rows later in
          (rest.0, rw other rest.1))
    ]

-- what is left after the first rows was there before
any-drop : {T : Type 0} (test : T → Bool) (n : ℕ) (rows : List T) → list_any test (drop n rows) ≡ true → list_any test rows ≡ true
any-drop test zero rows any = any
any-drop test (suc n) [] any = absurd cc
any-drop test (suc n) (row ∷ rows) any = or_right (test row) (list_any test rows) (any-drop test n rows any)

-- ---- the pages of a document

-- so many rows have the keys from k on
has-key : {T : Type 0} (key : T → ℕ) (n k j : ℕ) (rows : List T) → has_rows key n k rows ≡ true → j < n → list_any (λ row. eqb (key row) (k + j)) rows ≡ true
has-key key zero k j rows has l = absurd (omega arith)
has-key key (suc n) k j [] has l = absurd cc
has-key key (suc n) k zero (row ∷ rows) has l =
    let parts = and_parts (eqb (key row) k) (has_rows key n (k + 1) rows) has in
    let is : key row ≡ k = eqb-true (key row) k parts.0 in
    or_left (eqb (key row) (k + 0)) (list_any (λ other. eqb (key other) (k + 0)) rows) (eq-eqb (key row) (k + 0) (omega arith))
has-key key (suc n) k (suc j) (row ∷ rows) has l =
    let parts = and_parts (eqb (key row) k) (has_rows key n (k + 1) rows) has in
    let at : (k + 1) + j ≡ k + suc j = omega arith in
    or_right (eqb (key row) (k + suc j)) (list_any (λ other. eqb (key other) (k + suc j)) rows)
    (sym (ap (λ at. list_any (λ other. eqb (key other) at) rows) at) ∙ has-key key n (k + 1) j rows parts.1 (omega arith))

-- each page of a document has its row in a list that has one for each page
pub page-there : {T : Type 0} (key : T → ℕ) (doc page : ℕ) (row : DocRow) (docs : List DocRow) (rows : List T) → are_paged key docs rows ≡ true → find_key doc_key doc docs ≡ Some row → 1 ≤ page → page ≤ row.pages
    → list_any (λ other. eqb (key other) (two_keys doc page)) rows ≡ true
page-there key doc page row [] rows paged found low high = absurd cc
page-there key doc page row (first ∷ docs) rows paged found low high =
    let parts = and_parts (has_rows key first.pages (two_keys first.doc.0 1) rows) (are_paged key docs (drop first.pages rows)) paged in
    elim (cases_Bool (eqb first.doc.0 doc)) [
      | inl same_key ↦ (
          let same : first ≡ row = cc in
          let many : first.pages ≡ row.pages = ap (λ (r : DocRow). r.pages) same in
          let is : first.doc.0 ≡ doc = eqb-true first.doc.0 doc same_key in
          let at : two_keys first.doc.0 1 + (page - 1) ≡ two_keys doc page = omega arith in
          sym (ap (λ k. list_any (λ other. eqb (key other) k) rows) at) ∙ has-key key first.pages (two_keys first.doc.0 1) (page - 1) rows parts.0 (omega arith))
      | inr other ↦ (
          let later : find_key doc_key doc docs ≡ Some row = cc in
          any-drop (λ other. eqb (key other) (two_keys doc page)) first.pages rows (page-there key doc page row docs (drop first.pages rows) parts.1 later low high))
    ]

-- documents are numbered
pub counted : (n doc : ℕ) (row : DocRow) (docs : List DocRow) → is_numbered doc_key n docs ≡ true → find_key doc_key doc docs ≡ Some row → (n ≤ doc) × (slice_index_or (map (λ (r : DocRow). r.pages) docs) (doc - n) 0 ≡ row.pages) × (doc - n < length docs)
counted n doc row [] numbered found = absurd cc
counted n doc row (first ∷ docs) numbered found =
    let parts = and_parts (eqb first.doc.0 n) (is_numbered doc_key (n + 1) docs) numbered in
    let number : first.doc.0 ≡ n = eqb-true first.doc.0 n parts.0 in
    elim (cases_Bool (eqb first.doc.0 doc)) [
      | inl same_key ↦ (
          let same : first ≡ row = cc in
          let is : first.doc.0 ≡ doc = eqb-true first.doc.0 doc same_key in
          let at : doc - n ≡ 0 = omega arith in
          (omega arith, ap (λ k. slice_index_or (map (λ (r : DocRow). r.pages) (first ∷ docs)) k 0) at ∙ ap (λ (r : DocRow). r.pages) same, omega arith))
      | inr other ↦ (
          let later : find_key doc_key doc docs ≡ Some row = cc in
          let rest = counted (n + 1) doc row docs parts.1 later in
          let at : doc - n ≡ suc (doc - (n + 1)) = omega (arith, rest.0) in
          (omega (arith, rest.0), ap (λ k. slice_index_or (map (λ (r : DocRow). r.pages) (first ∷ docs)) k 0) at ∙ rest.1, omega (arith, rest.0, rest.2)))
    ]

-- ---- a page

-- a page that came in, and can be written
pub record IsScan (p : Image) : Type 0 where
  pub page : IsPage p
  pub sides : IsTrue (sides_are_imported p.width p.height)

is_scan : (row : PageRow) → page_fits row ≡ true → page_written row ≡ true → IsScan row.image
is_scan row fits written =
    let p : Image = row.image in
    let image = and_parts _ (image_written p) (and_parts _ _ written).1 in
    let xnum = and_parts _ _ (and_parts _ _ (and_parts _ _ image.1).1).1 in
    let xden = and_parts _ _ xnum.1 in
    let ynum = and_parts _ _ xden.1 in
    let yden = and_parts _ _ ynum.1 in
    record {
      page = record {
        sides = (plain_page p.width p.height p.rows yden.1).sides;
        xres = record { num = ltb-true p.xres.num (2 ^ 32) xnum.0; den = ltb-true p.xres.den (2 ^ 32) xden.0 };
        yres = record { num = ltb-true p.yres.num (2 ^ 32) ynum.0; den = ltb-true p.yres.den (2 ^ 32) yden.0 };
        grid = (plain_page p.width p.height p.rows yden.1).grid;
      };
      sides = fits;
    }

scan_found : (m : Matter) → IsValid m → (doc page : ℕ) (o : Option PageRow) → page_with doc page m ≡ o → list_any (λ other. eqb (page_key other) (two_keys doc page)) m.pages ≡ true → IsScan (page_image m doc page)
scan_found m valid doc page None is any = absurd (let found = finds (λ other. eqb (page_key other) (two_keys doc page)) m.pages any in cc)
scan_found m valid doc page (Some row) is any =
    let test : PageRow → Bool = λ other. eqb (page_key other) (two_keys doc page) in
    rw is (is_scan row (passes test page_fits m.pages row is valid.pages.fit) (passes test page_written m.pages row is valid.pages.written))

-- ---- the pages of an item

-- the document of an item is there
doc_there : (docs : List DocRow) (i : Item) (o : Option DocRow) → find_key doc_key i.doc.0 docs ≡ o → item_of o i ≡ true → (row : DocRow) × (find_key doc_key i.doc.0 docs ≡ Some row)
doc_there docs i None is fits = absurd cc
doc_there docs i (Some row) is fits = (row, is)

pub item-doc : (m : Matter) (i : Item) → item_fits (length m.fields) m.docs m.pages i ≡ true → (row : DocRow) × (find_key doc_key i.doc.0 m.docs ≡ Some row)
item-doc m i fits =
    let four = and_parts _ _ fits in
    let three = and_parts _ _ four.0 in
    let two = and_parts _ _ three.0 in
    let one = and_parts (item_of (find_key doc_key i.doc.0 m.docs) i) _ two.0 in
    doc_there m.docs i (find_key doc_key i.doc.0 m.docs) refl one.0

item_found : (m : Matter) → IsValid m → (i : Item) → item_fits (length m.fields) m.docs m.pages i ≡ true
    → (page : ℕ) → 1 ≤ page → page ≤ page_count m i.doc.0 → IsScan (page_image m i.doc.0 page)
item_found m valid i fits page low high =
    let found = item-doc m i fits in
    let many = counted 1 i.doc.0 found.0 m.docs valid.docs.numbered found.1 in
    scan_found m valid i.doc.0 page (page_with i.doc.0 page m) refl (page-there page_key i.doc.0 page found.0 m.docs m.pages valid.pages.paged found.1 low (omega (arith, page-counted m i.doc.0 many.0, many.1, high)))

pub all_at : {T : Type 0} (test : T → Bool) (rows : List T) → list_all test rows ≡ true → All (λ row. test row ≡ true) rows
all_at test [] all k d l = absurd (omega arith)
all_at test (row ∷ rows) all zero d l = (and_parts (test row) (list_all test rows) all).0
all_at test (row ∷ rows) all (suc k) d l = all_at test rows (and_parts (test row) (list_all test rows) all).1 k d (omega arith)

-- what a valid matter says of a production that it keeps
row_fits : (m : Matter) → IsValid m → (f : Production) (o : Option ProductionRow) → find (λ row. bytes_eq row.production.request.id f.request.id) m.productions ≡ o → of_row (λ row. row.production) o ≡ Some f
    → (row : ProductionRow) × (row.production ≡ f) × (production_fits m.fields m.docs m.pages row ≡ true)
row_fits m valid f None is kept = absurd cc
row_fits m valid f (Some row) is kept =
    let same : row.production ≡ f = cc in
    (row, same, passes (λ row. bytes_eq row.production.request.id f.request.id) (production_fits m.fields m.docs m.pages) m.productions row is valid.productions.fit)

kept_row : (m : Matter) → IsValid m → (f : Production) → KeepsProduction m f
    → (row : ProductionRow) × (row.production ≡ f) × (production_fits m.fields m.docs m.pages row ≡ true)
kept_row m valid f kept = row_fits m valid f (find (λ row. bytes_eq row.production.request.id f.request.id) m.productions) refl kept

pub kept-items : (m : Matter) → IsValid m → (f : Production) → KeepsProduction m f → All (λ i. item_fits (length m.fields) m.docs m.pages i ≡ true) f.items
kept-items m valid f kept =
    let found = kept_row m valid f kept in
    let three = and_parts _ _ found.2 in
    let two = and_parts _ (list_all (item_fits (length m.fields) m.docs m.pages) found.0.production.items) three.0 in
    all_at (item_fits (length m.fields) m.docs m.pages) f.items (sym (ap (λ (g : Production). list_all (item_fits (length m.fields) m.docs m.pages) g.items) found.1) ∙ two.1)

pub kept-fields : (m : Matter) → IsValid m → (f : Production) → KeepsProduction m f → All (λ name. has_field m.fields name ≡ true) f.request.fields
kept-fields m valid f kept =
    let found = kept_row m valid f kept in
    let three = and_parts _ _ found.2 in
    let two = and_parts _ _ three.0 in
    let one = and_parts (request_fits m.fields (length m.docs) found.0.production.request) _ two.0 in
    let all = and_parts _ (all_differ itself found.0.production.request.fields) one.0 in
    let chosen = and_parts _ (list_all (field_chosen m.fields) found.0.production.request.fields) all.0 in
    let fits : list_all (field_chosen m.fields) f.request.fields ≡ true = sym (ap (λ (g : Production). list_all (field_chosen m.fields) g.request.fields) found.1) ∙ chosen.1 in
    λ k d l. (and_parts (has_field m.fields (get_or f.request.fields k d)) _ (all_at (field_chosen m.fields) f.request.fields fits k d l)).0

-- each page of each item
pub pages-there : (m : Matter) → IsValid m → (f : Production) → KeepsProduction m f
    → All (λ i. (page : ℕ) → 1 ≤ page → page ≤ page_count m i.doc.0 → IsScan (page_image m i.doc.0 page)) f.items
pages-there m valid f kept k d l = item_found m valid (get_or f.items k d) (kept-items m valid f kept k d l)
