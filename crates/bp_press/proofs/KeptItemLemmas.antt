-- What a valid matter says of the items of a production that it keeps: their labels, their documents and their pages.
use Rattle.std.proofs.Common.{◌≡◌, ℕ, zero, suc, ◌+◌, ◌≤◌, ◌&&◌, ◌||◌, Bool, true, List, [], ◌∷◌, length, drop, get_or, All, Option, Some, None, nat_le, refl, ap, sym, ◌∙◌, subst, arith, eqb, inl, inr}
use Rattle.std.specs.List.{find, list_all}
use Rattle.std.specs.Str.{bytes_eq}
use Rattle.std.proofs.lemmas.Bool.{and_parts, cases_Bool, eqb-true, leb-true, or_cases}
use Rattle.std.proofs.lemmas.Slice.Eq.{bytes_eq-Decides}
use Rattle.bp_core.specs.Sorted.{find_key, two_keys}
use Rattle.bp_bates.specs.Prefixes.{is_good_prefix}
use Rattle.bp_bates.specs.Spans.{largest_of}
use Rattle.bp_matter.specs.LookUps.{of_row}
use Rattle.bp_matter.specs.Matter.{Matter, doc_key, page_key}
use Rattle.bp_matter.specs.Texts.{is_designation, is_value}
use Rattle.bp_matter.specs.Valid.{IsValid}
use Rattle.bp_matter.specs.ValidDocs.{are_families, doc_fits}
use Rattle.bp_matter.specs.ValidItems.{are_whole, due_after, is_due, item_fits, item_of, item_texts_fit, numbers_due}
use Rattle.bp_matter.specs.ValidPages.{are_paged, has_rows}
use Rattle.bp_matter.specs.ValidPrefixes.{after_productions, is_under, prefix_fits, spans_reach}
use Rattle.bp_matter.specs.ValidProductions.{has_prefix, production_fits}
use Rattle.bp_matter.specs.ValidRows.{is_numbered}
use Rattle.bp_core.specs.declared.review.Treatment.{Treatment}
use Rattle.bp_core.specs.declared.review.Treatment.TheVariants.{Produce, Redact, Withhold}
use Rattle.bp_press.specs.Contents.{ground_of}
use Rattle.bp_matter.specs.declared.rows.DocRow.{DocRow}
use Rattle.bp_matter.specs.declared.rows.Item.{Item}
use Rattle.bp_matter.specs.declared.rows.PrefixRow.{PrefixRow}
use Rattle.bp_matter.specs.declared.rows.Production.{Production}
use Rattle.bp_matter.specs.declared.rows.ProductionRow.{ProductionRow}
use Rattle.bp_matter.specs.declared.rows.Request.{Request}
use Rattle.bp_freeze.specs.Keeping.{KeepsProduction}
use Rattle.bp_freeze.specs.Seeing.{page_count}
use Rattle.bp_freeze.proofs.FrozenRangeLemmas.{page-counted}
use Rattle.bp_press.proofs.KeptPageLemmas.{counted, finds, item-doc, kept-items, passes}
use Rattle.bp_press.proofs.SpanLemmas.{SpanLies, found_lies, number_is}

-- ---- the row of a production

-- the test by which it is found
abbrev pub is_row_of : Production → ProductionRow → Bool
is_row_of f row = bytes_eq row.production.request.id f.request.id

pub record KeptRow (m : Matter) (f : Production) : Type 0 where
  pub row : ProductionRow
  pub found : find (is_row_of f) m.productions ≡ Some row
  pub same : row.production ≡ f

row_by : (m : Matter) (f : Production) (o : Option ProductionRow) → find (is_row_of f) m.productions ≡ o → of_row (λ row. row.production) o ≡ Some f → KeptRow m f
row_by m f None is kept = absurd cc
row_by m f (Some row) is kept = record { row = row; found = is; same = cc }

pub kept-row : (m : Matter) (f : Production) → KeepsProduction m f → KeptRow m f
kept-row m f kept = row_by m f (find (is_row_of f) m.productions) refl kept

-- what is found passes the test
pub found_passes : {T : Type 0} (test : T → Bool) (rows : List T) (row : T) → find test rows ≡ Some row → test row ≡ true
found_passes test [] row found = absurd cc
found_passes test (first ∷ rows) row found =
    elim (cases_Bool (test first)) [
      | inl here ↦ (
          let same : first ≡ row = cc in
          ap test (sym same) ∙ here)
      | inr later ↦ (
          let rest : find test rows ≡ Some row = cc in
          found_passes test rows row rest)
    ]

-- ---- its labels

-- its prefix is good, and its numbers are of the width and lie apart
pub record KeptNumbers (f : Production) : Type 0 where
  pub next : ℕ
  pub good : is_good_prefix f.request.prefix.text f.request.prefix.width ≡ true
  pub most : next ≤ largest_of f.request.prefix.width + 1
  pub lie : All (SpanLies 1 next) f.items

-- a prefix that is kept is that of the row
abbrev is_prefix_of : ProductionRow → PrefixRow → Bool
is_prefix_of row kept =
    bytes_eq kept.prefix.text row.production.request.prefix.text && eqb kept.prefix.width row.production.request.prefix.width

numbers_under : (m : Matter) → IsValid m → (f : Production) (kept : KeptRow m f) (p : PrefixRow) → find (is_prefix_of kept.row) m.prefixes ≡ Some p → KeptNumbers kept.row.production
numbers_under m valid f kept p found =
    let q : Request = kept.row.production.request in
    let test = and_parts (bytes_eq p.prefix.text q.prefix.text) (eqb p.prefix.width q.prefix.width) (found_passes (is_prefix_of kept.row) m.prefixes p found) in
    let text : p.prefix.text ≡ q.prefix.text = (bytes_eq-Decides p.prefix.text q.prefix.text).0 test.0 in
    let width : p.prefix.width ≡ q.prefix.width = eqb-true p.prefix.width q.prefix.width test.1 in
    let fits = and_parts _ _ (passes (is_prefix_of kept.row) prefix_fits m.prefixes p found valid.prefixes.fit) in
    let next = and_parts (nat_le 1 p.next) (nat_le p.next (largest_of p.prefix.width + 1)) fits.1 in
    let reached = passes (is_prefix_of kept.row) (spans_reach m.productions) m.prefixes p found valid.prefixes.spans_reach in
    let under : is_under p.prefix.text kept.row ≡ true = (bytes_eq-Decides q.prefix.text p.prefix.text).1 (sym text) in
    record {
      next = p.next;
      good = sym (ap (λ t. is_good_prefix t p.prefix.width) text ∙ ap (is_good_prefix q.prefix.text) width) ∙ fits.0;
      most = subst (λ w. p.next ≤ largest_of w + 1) width (leb-true p.next (largest_of p.prefix.width + 1) next.1);
      lie = found_lies p.prefix.text 1 m.productions p.next 1 (is_row_of f) kept.row kept.found under (omega arith)
          (number_is (after_productions p.prefix.text (Some 1) m.productions) p.next reached);
    }

pub kept-numbers : (m : Matter) → IsValid m → (f : Production) → KeepsProduction m f → KeptNumbers f
kept-numbers m valid f keeps =
    let kept = kept-row m f keeps in
    let has = passes (is_row_of f) (has_prefix m.prefixes) m.productions kept.row kept.found valid.productions.prefixes_kept in
    let prefix = finds (is_prefix_of kept.row) m.prefixes has in
    subst KeptNumbers kept.same (numbers_under m valid f kept prefix.0 prefix.1)

-- ---- documents

-- so many rows are there
rows_there : {T : Type 0} (key : T → ℕ) (n k : ℕ) (rows : List T) → has_rows key n k rows ≡ true → n ≤ length rows
rows_there key zero k rows has = omega arith
rows_there key (suc n) k [] has = absurd cc
rows_there key (suc n) k (row ∷ rows) has =
    let parts = and_parts (eqb (key row) k) (has_rows key n (k + 1) rows) has in
    omega (arith, rows_there key n (k + 1) rows parts.1)

fewer : {T : Type 0} (n : ℕ) (rows : List T) → length (drop n rows) ≤ length rows
fewer zero rows = omega arith
fewer (suc n) [] = omega arith
fewer (suc n) (row ∷ rows) = omega (arith, fewer n rows)

-- a document has no more pages than there are
pages_few : {T : Type 0} (key : T → ℕ) (doc : ℕ) (row : DocRow) (docs : List DocRow) (rows : List T) → are_paged key docs rows ≡ true → find_key doc_key doc docs ≡ Some row → row.pages ≤ length rows
pages_few key doc row [] rows paged found = absurd cc
pages_few key doc row (first ∷ docs) rows paged found =
    let parts = and_parts (has_rows key first.pages (two_keys first.doc.0 1) rows) (are_paged key docs (drop first.pages rows)) paged in
    elim (cases_Bool (eqb first.doc.0 doc)) [
      | inl here ↦ (
          let same : first ≡ row = cc in
          let many : first.pages ≡ row.pages = ap (λ (r : DocRow). r.pages) same in
          omega (arith, many, rows_there key first.pages (two_keys first.doc.0 1) rows parts.0))
      | inr other ↦ (
          let later : find_key doc_key doc docs ≡ Some row = cc in
          omega (arith, fewer first.pages rows, pages_few key doc row docs (drop first.pages rows) parts.1 later))
    ]

-- the parent of a document doesn't come after it
parent_before : (n before doc : ℕ) (row : DocRow) (docs : List DocRow) → before ≤ n → is_numbered doc_key n docs ≡ true → are_families before docs ≡ true → find_key doc_key doc docs ≡ Some row → row.parent.0 ≤ doc
parent_before n before doc row [] low numbered families found = absurd cc
parent_before n before doc row (first ∷ docs) low numbered families found =
    let number = and_parts (eqb first.doc.0 n) (is_numbered doc_key (n + 1) docs) numbered in
    let is : first.doc.0 ≡ n = eqb-true first.doc.0 n number.0 in
    let parts = and_parts (eqb first.parent.0 first.doc.0 || eqb first.parent.0 before) (are_families first.parent.0 docs) families in
    let small : first.parent.0 ≤ n =
    elim (or_cases (eqb first.parent.0 first.doc.0) (eqb first.parent.0 before) parts.0) [
      | inl own ↦ omega (arith, eqb-true first.parent.0 first.doc.0 own)
      | inr older ↦ omega (arith, eqb-true first.parent.0 before older)
    ] in
    elim (cases_Bool (eqb first.doc.0 doc)) [
      | inl here ↦ (
          let same : first ≡ row = cc in
          let at : first.parent.0 ≡ row.parent.0 = ap (λ (r : DocRow). r.parent.0) same in
          let there : first.doc.0 ≡ doc = eqb-true first.doc.0 doc here in
          omega arith)
      | inr other ↦ (
          let later : find_key doc_key doc docs ≡ Some row = cc in
          parent_before (n + 1) first.parent.0 doc row docs (omega arith) number.1 parts.1 later)
    ]

-- ---- items

-- an item's document is there, with its pages and its parent
pub record ItemStands (m : Matter) (i : Item) : Type 0 where
  pub row : DocRow
  pub found : find_key doc_key i.doc.0 m.docs ≡ Some row
  pub doc : 1 ≤ i.doc.0
  pub there : i.doc.0 ≤ length m.docs
  pub pages : page_count m i.doc.0 ≡ row.pages
  pub some : 1 ≤ row.pages
  pub few : row.pages ≤ length m.pages
  pub values : list_all is_value row.values ≡ true
  pub parent : i.parent.0 ≤ length m.docs
  pub numbers : ℕ
  pub some_numbers : 1 ≤ numbers
  pub few_numbers : numbers ≤ row.pages
  pub span : i.span.last + 1 ≡ i.span.first + numbers
  pub shown : ground_of i.treatment ≡ None → numbers ≡ row.pages
  pub designation : is_designation i.designation ≡ true
  pub texts : item_texts_fit i ≡ true

-- how many numbers are due
due_some : (t : Treatment) (pages : ℕ) → 1 ≤ pages → 1 ≤ numbers_due t pages
due_some Produce pages l = l
due_some Redact pages l = l
due_some (Withhold basis) pages l = omega arith

due_few : (t : Treatment) (pages : ℕ) → 1 ≤ pages → numbers_due t pages ≤ pages
due_few Produce pages l = omega arith
due_few Redact pages l = omega arith
due_few (Withhold basis) pages l = l

due_shown : (t : Treatment) (pages : ℕ) → ground_of t ≡ None → numbers_due t pages ≡ pages
due_shown Produce pages shown = refl
due_shown Redact pages shown = refl
due_shown (Withhold basis) pages shown = absurd cc

pub item-stands : (m : Matter) → IsValid m → (i : Item) → item_fits (length m.fields) m.docs m.pages i ≡ true → ItemStands m i
item-stands m valid i fits =
    let four = and_parts _ (item_texts_fit i) fits in
    let three = and_parts _ _ four.0 in
    let two = and_parts _ (is_designation i.designation) three.0 in
    let one = and_parts (item_of (find_key doc_key i.doc.0 m.docs) i) _ two.0 in
    let doc = item-doc m i fits in
    let row : DocRow = doc.0 in
    let many = counted 1 i.doc.0 row m.docs valid.docs.numbered doc.1 in
    let own : item_of (Some row) i ≡ true = sym (ap (λ (o : Option DocRow). item_of o i) doc.1) ∙ one.0 in
    let span = and_parts (eqb i.parent.0 row.parent.0) (eqb (i.span.last + 1) (i.span.first + numbers_due i.treatment row.pages)) own in
    let test : DocRow → Bool = λ other. eqb other.doc.0 i.doc.0 in
    let doc_is = and_parts _ (list_all is_value row.values) (passes test (doc_fits (length m.fields) (length m.batches)) m.docs row doc.1 valid.docs.fit) in
    let doc_three = and_parts _ _ doc_is.0 in
    let doc_two = and_parts _ _ doc_three.0 in
    let doc_one = and_parts (nat_le 1 row.pages) _ doc_two.0 in
    let some = leb-true 1 row.pages doc_one.0 in
    record {
      row = row;
      found = doc.1;
      doc = many.0;
      there = omega (arith, many.0, many.2);
      pages = page-counted m i.doc.0 many.0 ∙ many.1;
      some = some;
      few = pages_few page_key i.doc.0 row m.docs m.pages valid.pages.paged doc.1;
      values = doc_is.1;
      parent = omega (arith, eqb-true i.parent.0 row.parent.0 span.0, many.0, many.2, parent_before 1 1 i.doc.0 row m.docs (omega arith) valid.docs.numbered valid.docs.families doc.1);
      numbers = numbers_due i.treatment row.pages;
      some_numbers = due_some i.treatment row.pages some;
      few_numbers = due_few i.treatment row.pages some;
      span = eqb-true (i.span.last + 1) (i.span.first + numbers_due i.treatment row.pages) span.1;
      shown = due_shown i.treatment row.pages;
      designation = two.1;
      texts = four.1;
    }

pub items-stand : (m : Matter) → IsValid m → (f : Production) → KeepsProduction m f → All (ItemStands m) f.items
items-stand m valid f kept k d l = item-stands m valid (get_or f.items k d) (kept-items m valid f kept k d l)

-- ---- how many there are

whole_few : (m : Matter) (due low : ℕ) (items : List Item) → are_whole m.docs due low items ≡ true → All (ItemStands m) items → low ≤ length m.docs + 1 → low + length items ≤ length m.docs + 1
whole_few m due low [] whole stand l = omega arith
whole_few m due low (i ∷ items) whole stand l =
    let parts = and_parts _ (are_whole m.docs (due_after (find_key doc_key (i.doc.0 + 1) m.docs) i) (i.doc.0 + 1) items) whole in
    let low_is = and_parts (nat_le low i.doc.0) (is_due due i) parts.0 in
    let here = stand 0 i (omega arith) in
    omega (
      arith,
      leb-true low i.doc.0 low_is.0,
      here.there,
      whole_few m (due_after (find_key doc_key (i.doc.0 + 1) m.docs) i) (i.doc.0 + 1) items parts.1 (λ k d b. stand (suc k) d (omega arith)) (omega (arith, here.there)),
    )

pub items-few : (m : Matter) → IsValid m → (f : Production) → KeepsProduction m f → length f.items ≤ length m.docs
items-few m valid f keeps =
    let kept = kept-row m f keeps in
    let fits = and_parts _ (are_whole m.docs 0 1 kept.row.production.items) (passes (is_row_of f) (production_fits m.fields m.docs m.pages) m.productions kept.row kept.found valid.productions.fit) in
    let whole : are_whole m.docs 0 1 f.items ≡ true = sym (ap (λ (g : Production). are_whole m.docs 0 1 g.items) kept.same) ∙ fits.1 in
    omega (arith, whole_few m 0 1 f.items whole (items-stand m valid f keeps) (omega arith))
