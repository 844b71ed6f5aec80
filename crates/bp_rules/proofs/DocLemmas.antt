-- The fields, the batch and the documents that an import adds are valid ones.
use Rattle.std.proofs.Common.{◌≡◌, ℕ, ◌+◌, ◌≤◌, ◌<◌, ◌^◌, Bool, true, false, eqb, leb, ◌&&◌, ◌||◌, not, List, [], ◌∷◌, ◌++◌, length, map, Option, Some, None, refl, sym, ap, ◌∙◌, inl, inr, arith, get_or, zero, suc}
use Rattle.std.specs.List.{filter, list_all, list_any}
use Rattle.std.specs.Str.{bytes_eq}
use Rattle.std.proofs.lemmas.Bool.{and_parts, and_from, or_left, or_right, or_cases, or_from, or_parts, not_from_false, cases_Bool, eqb-true, eq-eqb, leb-true, le-leb, lt-ltb}
use Rattle.std.proofs.lemmas.List.{length-map, length-append}
use Rattle.bp_matter.specs.Batches.{BatchShown, IsBatch, batch_doc_fits, batch_doc_written, batch_page_fits, batch_page_written, pages_in, parents_stand}
use Rattle.bp_matter.specs.Matter.{batch_key, doc_key, field_key}
use Rattle.bp_matter.specs.Texts.{is_batch_name, is_field_name, is_id_of_doc, is_value}
use Rattle.bp_matter.specs.ValidBatches.{BatchFacts, batch_fits, batch_name}
use Rattle.bp_matter.specs.ValidDocs.{DocFacts, are_families, doc_fits}
use Rattle.bp_matter.specs.ValidFields.{FieldFacts, field_fits, field_name, has_field}
use Rattle.bp_matter.specs.ValidProductions.{itself}
use Rattle.bp_core.specs.Differing.{all_differ}
use Rattle.bp_matter.specs.ValidRows.{is_numbered, names}
use Rattle.bp_matter.specs.Written.{are_few, batch_written, doc_written, field_written, is_short, is_word}
use Rattle.bp_matter.specs.declared.batches.BatchDoc.{BatchDoc}
use Rattle.bp_matter.specs.declared.rows.BatchRow.{BatchRow}
use Rattle.bp_matter.specs.declared.rows.DocRow.{DocRow}
use Rattle.bp_matter.specs.declared.rows.FieldRow.{FieldRow}
use Rattle.bp_rules.specs.ImportRows.{batch_row, doc_row, doc_rows, field_rows, lacking, value_at}
use Rattle.bp_rules.proofs.ListLemmas.{assoc4, assoc5, all-append, all-filter, all-kept, all-weaker, at_most-more, differ-append, names-more, numbered-append, not_true}

-- ---- fields

field-numbered : (n : ℕ) (texts : List (List ℕ)) → is_numbered field_key n (field_rows n texts) ≡ true
field-numbered n [] = refl
field-numbered n (text ∷ texts) = and_from (eqb n n) (is_numbered field_key (n + 1) (field_rows (n + 1) texts)) (eq-eqb n n refl) (field-numbered (n + 1) texts)

pub field-count : (n : ℕ) (texts : List (List ℕ)) → length (field_rows n texts) ≡ length texts
field-count n [] = refl
field-count n (text ∷ texts) = ap suc (field-count (n + 1) texts)

-- a test of names is one of the rows
field-all : (p : List ℕ → Bool) (n : ℕ) (texts : List (List ℕ)) → list_all p texts ≡ true → list_all (λ (row : FieldRow). p row.name) (field_rows n texts) ≡ true
field-all p n [] all = refl
field-all p n (text ∷ texts) all =
    let parts = and_parts (p text) (list_all p texts) all in
    and_from (p text) (list_all (λ (row : FieldRow). p row.name) (field_rows (n + 1) texts)) parts.0 (field-all p (n + 1) texts parts.1)

field-any : (p : List ℕ → Bool) (n : ℕ) (texts : List (List ℕ)) → list_any (λ (row : FieldRow). p row.name) (field_rows n texts) ≡ list_any p texts
field-any p n [] = refl
field-any p n (text ∷ texts) = ap (λ (b : Bool). p text || b) (field-any p (n + 1) texts)

field-differ : (n : ℕ) (texts : List (List ℕ)) → all_differ itself texts ≡ true → all_differ field_name (field_rows n texts) ≡ true
field-differ n [] h = refl
field-differ n (text ∷ texts) h =
    let parts = and_parts (not (list_any (λ other. bytes_eq other text) texts)) (all_differ itself texts) h in
    let apart : not (list_any (λ (row : FieldRow). bytes_eq row.name text) (field_rows (n + 1) texts)) ≡ true =
    ap not (field-any (λ other. bytes_eq other text) (n + 1) texts) ∙ parts.0 in
    and_from (not (list_any (λ (row : FieldRow). bytes_eq row.name text) (field_rows (n + 1) texts))) (all_differ field_name (field_rows (n + 1) texts)) apart (field-differ (n + 1) texts parts.1)

any-filtered : (p q : List ℕ → Bool) (texts : List (List ℕ)) → list_any p texts ≡ false → list_any p (filter q texts) ≡ false
any-filtered p q [] h = refl
any-filtered p q (text ∷ texts) h =
    let parts = or_parts (p text) (list_any p texts) h in
    elim (cases_Bool (q text)) [
      | inl kept ↦ rw kept (or_from (p text) (list_any p (filter q texts)) parts.0 (any-filtered p q texts parts.1))
      | inr gone ↦ rw gone (any-filtered p q texts parts.1)
    ]

differ-filtered : (q : List ℕ → Bool) (texts : List (List ℕ)) → all_differ itself texts ≡ true → all_differ itself (filter q texts) ≡ true
differ-filtered q [] h = refl
differ-filtered q (text ∷ texts) h =
    let parts = and_parts (not (list_any (λ other. bytes_eq other text) texts)) (all_differ itself texts) h in
    let none = any-filtered (λ other. bytes_eq other text) q texts (not_true (list_any (λ other. bytes_eq other text) texts) parts.0) in
    elim (cases_Bool (q text)) [
      | inl kept ↦ rw kept (and_from (not (list_any (λ other. bytes_eq other text) (filter q texts))) (all_differ itself (filter q texts)) (not_from_false (list_any (λ other. bytes_eq other text) (filter q texts)) none) (differ-filtered q texts parts.1))
      | inr gone ↦ rw gone (differ-filtered q texts parts.1)
    ]

field-written : (n : ℕ) (texts : List (List ℕ)) → n + length texts ≤ 2 ^ 32 → list_all is_short texts ≡ true → list_all field_written (field_rows n texts) ≡ true
field-written n [] few all = refl
field-written n (text ∷ texts) few all =
    let parts = and_parts (is_short text) (list_all is_short texts) all in
    and_from (is_word n && is_short text) (list_all field_written (field_rows (n + 1) texts)) (and_from (is_word n) (is_short text) (lt-ltb n (2 ^ 32) (omega arith)) parts.0)
    (field-written (n + 1) texts (omega arith) parts.1)

-- the fields after an import
pub field-facts : (fields : List FieldRow) (b : BatchShown) → FieldFacts fields → IsBatch b → length fields + length (lacking fields b.fields) ≤ 64
    → FieldFacts (fields ++ field_rows (length fields + 1) (lacking fields b.fields))
field-facts fields b old is few =
    let texts = lacking fields b.fields in
    let rows = field_rows (length fields + 1) texts in
    let short = (and_parts (list_all is_short b.fields) (is_word (length b.fields)) is.few_fields).0 in
    record {
      numbered = numbered-append field_key 1 (length fields + 1) fields rows (omega arith) old.numbered (field-numbered (length fields + 1) texts);
      few = le-leb (length (fields ++ rows)) 64 (omega (arith, length-append fields rows, field-count (length fields + 1) texts));
      names_differ = differ-append field_name fields rows old.names_differ (field-differ (length fields + 1) texts (differ-filtered (λ name. not (has_field fields name)) b.fields is.names_differ))
          (field-all (λ name. not (has_field fields name)) (length fields + 1) texts (all-kept (λ name. not (has_field fields name)) b.fields));
      fit = all-append field_fits fields rows old.fit (field-all is_field_name (length fields + 1) texts (all-filter is_field_name (λ name. not (has_field fields name)) b.fields is.fields));
      written = all-append field_written fields rows old.written (field-written (length fields + 1) texts (omega arith) (all-filter is_short (λ name. not (has_field fields name)) b.fields short));
    }

-- ---- batches

pub batch-facts : (batches : List BatchRow) (b : BatchShown) → BatchFacts batches → IsBatch b → length batches + 1 ≤ 1000 → list_any (λ (row : BatchRow). bytes_eq row.name b.name) batches ≡ false → is_short b.name ≡ true
    → BatchFacts (batches ++ batch_row (length batches + 1) b ∷ [])
batch-facts batches b old is few apart short =
    let row = batch_row (length batches + 1) b in
    record {
      numbered = numbered-append batch_key 1 (length batches + 1) batches (row ∷ []) (omega arith) old.numbered (and_from (eqb (length batches + 1) (length batches + 1)) true (eq-eqb (length batches + 1) (length batches + 1) refl) refl);
      few = le-leb (length (batches ++ row ∷ [])) 1000 (omega (arith, length-append batches (row ∷ [])));
      names_differ = differ-append batch_name batches (row ∷ []) old.names_differ refl (and_from (not (list_any (λ (r : BatchRow). bytes_eq r.name b.name) batches)) true (not_from_false (list_any (λ (r : BatchRow). bytes_eq r.name b.name) batches) apart) refl);
      fit = all-append batch_fits batches (row ∷ []) old.fit (and_from (is_batch_name b.name) true is.name refl);
      written = all-append batch_written batches (row ∷ []) old.written (and_from (batch_written row) true
          (and_from (is_word (length batches + 1)) ((eqb (length b.digest) 32) && (is_word (length b.docs) && (is_word (pages_in b.docs) && is_short b.name))) (lt-ltb (length batches + 1) (2 ^ 32) (omega arith))
          (and_from (eqb (length b.digest) 32) (is_word (length b.docs) && (is_word (pages_in b.docs) && is_short b.name)) is.digest
          (and_from (is_word (length b.docs)) (is_word (pages_in b.docs) && is_short b.name) is.few_docs (and_from (is_word (pages_in b.docs)) (is_short b.name) is.few_pages short)))) refl);
    }

-- ---- documents

doc-numbered : (before batch : ℕ) (places : List (Option ℕ)) (n : ℕ) (docs : List BatchDoc) → is_numbered doc_key n (doc_rows before batch places n docs) ≡ true
doc-numbered before batch places n [] = refl
doc-numbered before batch places n (doc ∷ docs) =
    and_from (eqb n n) (is_numbered doc_key (n + 1) (doc_rows before batch places (n + 1) docs)) (eq-eqb n n refl) (doc-numbered before batch places (n + 1) docs)

pub doc-count : (before batch : ℕ) (places : List (Option ℕ)) (n : ℕ) (docs : List BatchDoc) → length (doc_rows before batch places n docs) ≡ length docs
doc-count before batch places n [] = refl
doc-count before batch places n (doc ∷ docs) = ap suc (doc-count before batch places (n + 1) docs)

-- parents, moved on by the documents before
moved : (before x k p n q : ℕ) → (eqb x k || eqb x p) ≡ true → n ≡ before + k → q ≡ before + p → (eqb (before + x) n || eqb (before + x) q) ≡ true
moved before x k p n q h en eq =
    elim (or_cases (eqb x k) (eqb x p) h) [
      | inl own ↦ (let e : x ≡ k = eqb-true x k own in or_left (eqb (before + x) n) (eqb (before + x) q) (eq-eqb (before + x) n (omega arith)))
      | inr other ↦ (let e : x ≡ p = eqb-true x p other in or_right (eqb (before + x) n) (eqb (before + x) q) (eq-eqb (before + x) q (omega arith)))
    ]

doc-families : (before batch : ℕ) (places : List (Option ℕ)) (k p n q : ℕ) (docs : List BatchDoc) → parents_stand k p docs ≡ true → n ≡ before + k → q ≡ before + p → are_families q (doc_rows before batch places n docs) ≡ true
doc-families before batch places k p n q [] h en eq = refl
doc-families before batch places k p n q (doc ∷ docs) h en eq =
    let parts = and_parts (eqb doc.parent k || eqb doc.parent p) (parents_stand (k + 1) doc.parent docs) h in
    and_from (eqb (before + doc.parent) n || eqb (before + doc.parent) q) (are_families (before + doc.parent) (doc_rows before batch places (n + 1) docs)) (moved before doc.parent k p n q parts.0 en eq)
    (doc-families before batch places (k + 1) doc.parent (n + 1) (before + doc.parent) docs parts.1 (omega arith) refl)

-- the first document of a batch is a parent itself, whatever stands before it
families-new : (before batch : ℕ) (places : List (Option ℕ)) (q : ℕ) (docs : List BatchDoc) → parents_stand 1 1 docs ≡ true → are_families q (doc_rows before batch places (before + 1) docs) ≡ true
families-new before batch places q [] h = refl
families-new before batch places q (doc ∷ docs) h =
    let parts = and_parts (eqb doc.parent 1 || eqb doc.parent 1) (parents_stand 2 doc.parent docs) h in
    let own : doc.parent ≡ 1 = elim (or_cases (eqb doc.parent 1) (eqb doc.parent 1) parts.0) [ inl e ↦ eqb-true doc.parent 1 e | inr e ↦ eqb-true doc.parent 1 e ] in
    and_from (eqb (before + doc.parent) (before + 1) || eqb (before + doc.parent) q) (are_families (before + doc.parent) (doc_rows before batch places (before + 1 + 1) docs))
    (or_left (eqb (before + doc.parent) (before + 1)) (eqb (before + doc.parent) q) (eq-eqb (before + doc.parent) (before + 1) (omega arith)))
    (doc-families before batch places 2 doc.parent (before + 1 + 1) (before + doc.parent) docs parts.1 (omega arith) refl)

families-append : (p : ℕ) (xs ys : List DocRow) → are_families p xs ≡ true → ((q : ℕ) → are_families q ys ≡ true) → are_families p (xs ++ ys) ≡ true
families-append p [] ys first second = second p
families-append p (x ∷ xs) ys first second =
    let parts = and_parts (eqb x.parent.0 x.doc.0 || eqb x.parent.0 p) (are_families x.parent.0 xs) first in
    and_from (eqb x.parent.0 x.doc.0 || eqb x.parent.0 p) (are_families x.parent.0 (xs ++ ys)) parts.0 (families-append x.parent.0 xs ys parts.1 second)

-- a parent in a batch is a place up to the document's own, from 1
pub parents-low : (k p most : ℕ) (docs : List BatchDoc) → parents_stand k p docs ≡ true → p ≤ k → 1 ≤ p → k + length docs ≤ most + 1 → list_all (λ (doc : BatchDoc). leb 1 doc.parent && leb doc.parent most) docs ≡ true
parents-low k p most [] h le low few = refl
parents-low k p most (doc ∷ docs) h le low few =
    let parts = and_parts (eqb doc.parent k || eqb doc.parent p) (parents_stand (k + 1) doc.parent docs) h in
    let one : (1 ≤ doc.parent) × (doc.parent ≤ k) =
    elim (or_cases (eqb doc.parent k) (eqb doc.parent p) parts.0) [
      | inl own ↦ (let e : doc.parent ≡ k = eqb-true doc.parent k own in (omega arith, omega arith))
      | inr other ↦ (let e : doc.parent ≡ p = eqb-true doc.parent p other in (omega arith, omega arith))
    ] in
    and_from (leb 1 doc.parent && leb doc.parent most) (list_all (λ (d : BatchDoc). leb 1 d.parent && leb d.parent most) docs)
    (and_from (leb 1 doc.parent) (leb doc.parent most) (le-leb 1 doc.parent one.0) (le-leb doc.parent most (omega (arith, one.1))))
    (parents-low (k + 1) doc.parent most docs parts.1 (omega (arith, one.1)) one.0 (omega arith))

-- the parents of documents that are lent, counted from the same number on
pub parents-lent : (before number : ℕ) (docs lent : List BatchDoc) → before ≡ number → lent ≡ docs → list_all (λ (doc : BatchDoc). leb (number + doc.parent) 10000) docs ≡ true
    → list_all (λ (doc : BatchDoc). leb (before + doc.parent) 10000) lent ≡ true
parents-lent before number docs lent counted same low =
    ap (λ (l : List BatchDoc). list_all (λ (doc : BatchDoc). leb (before + doc.parent) 10000) l) same
    ∙ ap (λ k. list_all (λ (doc : BatchDoc). leb (k + doc.parent) 10000) docs) counted ∙ low

-- a test of batch documents gives one of the rows
pub doc-all : (p : DocRow → Bool) (q : BatchDoc → Bool) (before batch : ℕ) (places : List (Option ℕ)) (n : ℕ) (docs : List BatchDoc)
    → ((i : ℕ) (doc : BatchDoc) → i < n + length docs → length doc.pages ≤ pages_in docs → q doc ≡ true → p (doc_row before batch places i doc) ≡ true) → list_all q docs ≡ true → list_all p (doc_rows before batch places n docs) ≡ true
doc-all p q before batch places n [] each all = refl
doc-all p q before batch places n (doc ∷ docs) each all =
    let parts = and_parts (q doc) (list_all q docs) all in
    and_from (p (doc_row before batch places n doc)) (list_all p (doc_rows before batch places (n + 1) docs)) (each n doc (omega arith) (omega arith) parts.0)
    (doc-all p q before batch places (n + 1) docs (λ i d lt le h. each i d (omega arith) (omega arith) h) parts.1)

-- a value that is taken is one of the document's, or empty
value-all : (p : List ℕ → Bool) → p [] ≡ true → (values : List (List ℕ)) (n : ℕ) → list_all p values ≡ true → p (get_or values n []) ≡ true
value-all p none [] n all = none
value-all p none (value ∷ values) zero all = (and_parts (p value) (list_all p values) all).0
value-all p none (value ∷ values) (suc n) all = value-all p none values n (and_parts (p value) (list_all p values) all).1

pub values-all : (p : List ℕ → Bool) → p [] ≡ true → (values : List (List ℕ)) (places : List (Option ℕ)) → list_all p values ≡ true → list_all p (map (value_at values) places) ≡ true
values-all p none values [] all = refl
values-all p none values (None ∷ places) all = and_from (p []) (list_all p (map (value_at values) places)) none (values-all p none values places all)
values-all p none values (Some n ∷ places) all = and_from (p (get_or values n [])) (list_all p (map (value_at values) places)) (value-all p none values n all) (values-all p none values places all)

doc-fit : (fields batches given before batch : ℕ) (places : List (Option ℕ)) (n : ℕ) (doc : BatchDoc) → length places ≤ fields → 1 ≤ batch → batch ≤ batches → batch_doc_fits given doc ≡ true → doc_fits fields batches (doc_row before batch places n doc) ≡ true
doc-fit fields batches given before batch places n doc few one most h =
    let p1 = and_parts (leb 1 (length doc.pages)) (eqb (length doc.values) given && (is_id_of_doc doc.id && (list_all is_value doc.values && list_all batch_page_fits doc.pages))) (sym (assoc5 (leb 1 (length doc.pages)) (eqb (length doc.values) given) (is_id_of_doc doc.id) (list_all is_value doc.values) (list_all batch_page_fits doc.pages)) ∙ h) in
    let p2 = and_parts (eqb (length doc.values) given) (is_id_of_doc doc.id && (list_all is_value doc.values && list_all batch_page_fits doc.pages)) p1.1 in
    let p3 = and_parts (is_id_of_doc doc.id) (list_all is_value doc.values && list_all batch_page_fits doc.pages) p2.1 in
    let p4 = and_parts (list_all is_value doc.values) (list_all batch_page_fits doc.pages) p3.1 in
    let values = map (value_at doc.values) places in
    assoc5 (leb 1 (length doc.pages)) (leb (length values) fields) (names batches batch) (is_id_of_doc doc.id) (list_all is_value values)
    ∙ and_from (leb 1 (length doc.pages)) (leb (length values) fields && (names batches batch && (is_id_of_doc doc.id && list_all is_value values))) p1.0
    (and_from (leb (length values) fields) (names batches batch && (is_id_of_doc doc.id && list_all is_value values)) (le-leb (length values) fields (omega (arith, length-map places (value_at doc.values))))
    (and_from (names batches batch) (is_id_of_doc doc.id && list_all is_value values) (and_from (leb 1 batch) (leb batch batches) (le-leb 1 batch one) (le-leb batch batches most))
    (and_from (is_id_of_doc doc.id) (list_all is_value values) p3.0 (values-all is_value refl doc.values places p4.0))))

doc-writes : (before batch most : ℕ) (places : List (Option ℕ)) (n : ℕ) (doc : BatchDoc) → before + most ≤ 10000 → n ≤ 10000 → batch ≤ 1000 → length places ≤ 64 → length doc.pages ≤ 20000 → is_short [] ≡ true
    → (leb doc.parent most && batch_doc_written doc) ≡ true → doc_written (doc_row before batch places n doc) ≡ true
doc-writes before batch most places n doc few le lb lp pages none h =
    let p0 = and_parts (leb doc.parent most) (batch_doc_written doc) h in
    let low = leb-true doc.parent most p0.0 in
    let p1 = and_parts (is_word doc.parent) (is_short doc.id && (are_few is_short doc.values && list_all batch_page_written doc.pages)) (sym (assoc4 (is_word doc.parent) (is_short doc.id) (are_few is_short doc.values) (list_all batch_page_written doc.pages)) ∙ p0.1) in
    let p2 = and_parts (is_short doc.id) (are_few is_short doc.values && list_all batch_page_written doc.pages) p1.1 in
    let p3 = and_parts (are_few is_short doc.values) (list_all batch_page_written doc.pages) p2.1 in
    let p4 = and_parts (list_all is_short doc.values) (is_word (length doc.values)) p3.0 in
    let values = map (value_at doc.values) places in
    let count : length values ≡ length places = length-map places (value_at doc.values) in
    and_from (is_word n) (is_word (before + doc.parent) && (is_word (length doc.pages) && (is_word batch && (is_short doc.id && are_few is_short values)))) (lt-ltb n (2 ^ 32) (omega arith))
    (and_from (is_word (before + doc.parent)) (is_word (length doc.pages) && (is_word batch && (is_short doc.id && are_few is_short values))) (lt-ltb (before + doc.parent) (2 ^ 32) (omega arith))
    (and_from (is_word (length doc.pages)) (is_word batch && (is_short doc.id && are_few is_short values)) (lt-ltb (length doc.pages) (2 ^ 32) (omega arith))
    (and_from (is_word batch) (is_short doc.id && are_few is_short values) (lt-ltb batch (2 ^ 32) (omega arith))
    (and_from (is_short doc.id) (are_few is_short values) p2.0
    (and_from (list_all is_short values) (is_word (length values)) (values-all is_short none doc.values places p4.0) (lt-ltb (length values) (2 ^ 32) (omega arith)))))))

-- a document is as valid where there are more fields and batches
doc-more : (fields batches fields' batches' : ℕ) (row : DocRow) → fields ≤ fields' → batches ≤ batches' → doc_fits fields batches row ≡ true → doc_fits fields' batches' row ≡ true
doc-more fields batches fields' batches' row lf lb h =
    let p1 = and_parts (leb 1 row.pages) (leb (length row.values) fields && (names batches row.batch && (is_id_of_doc row.id && list_all is_value row.values))) (sym (assoc5 (leb 1 row.pages) (leb (length row.values) fields) (names batches row.batch) (is_id_of_doc row.id) (list_all is_value row.values)) ∙ h) in
    let p2 = and_parts (leb (length row.values) fields) (names batches row.batch && (is_id_of_doc row.id && list_all is_value row.values)) p1.1 in
    let p3 = and_parts (names batches row.batch) (is_id_of_doc row.id && list_all is_value row.values) p2.1 in
    assoc5 (leb 1 row.pages) (leb (length row.values) fields') (names batches' row.batch) (is_id_of_doc row.id) (list_all is_value row.values)
    ∙ and_from (leb 1 row.pages) (leb (length row.values) fields' && (names batches' row.batch && (is_id_of_doc row.id && list_all is_value row.values))) p1.0
    (and_from (leb (length row.values) fields') (names batches' row.batch && (is_id_of_doc row.id && list_all is_value row.values)) (at_most-more fields fields' (length row.values) lf p2.0)
    (and_from (names batches' row.batch) (is_id_of_doc row.id && list_all is_value row.values) (names-more batches batches' row.batch lb p3.0) p3.1))

both-all : {T : Type 0} (p q : T → Bool) (xs : List T) → list_all p xs ≡ true → list_all q xs ≡ true → list_all (λ x. p x && q x) xs ≡ true
both-all p q [] a b = refl
both-all p q (x ∷ xs) a b =
    let pa = and_parts (p x) (list_all p xs) a in let pb = and_parts (q x) (list_all q xs) b in
    and_from (p x && q x) (list_all (λ y. p y && q y) xs) (and_from (p x) (q x) pa.0 pb.0) (both-all p q xs pa.1 pb.1)

-- the documents after an import
pub doc-facts : (fields batches fields' : ℕ) (docs : List DocRow) (places : List (Option ℕ)) (b : BatchShown) → DocFacts fields batches docs → IsBatch b → fields ≤ fields' → length places ≡ fields' → fields' ≤ 64 → batches + 1 ≤ 1000
    → length docs + length b.docs ≤ 10000 → pages_in b.docs ≤ 20000 → is_short [] ≡ true
    → DocFacts fields' (batches + 1) (docs ++ doc_rows (length docs) (batches + 1) places (length docs + 1) b.docs)
doc-facts fields batches fields' docs places b old is more count most few_batches few few_pages none =
    let before = length docs in let batch = batches + 1 in
    let rows = doc_rows before batch places (before + 1) b.docs in
    let low = all-weaker (λ (doc : BatchDoc). leb 1 doc.parent && leb doc.parent (length b.docs)) (λ (doc : BatchDoc). leb doc.parent (length b.docs)) b.docs
    (λ doc h. (and_parts (leb 1 doc.parent) (leb doc.parent (length b.docs)) h).1) (parents-low 1 1 (length b.docs) b.docs is.families (omega arith) (omega arith) (omega arith)) in
    record {
      numbered = numbered-append doc_key 1 (before + 1) docs rows (omega arith) old.numbered (doc-numbered before batch places (before + 1) b.docs);
      few = le-leb (length (docs ++ rows)) 10000 (omega (arith, length-append docs rows, doc-count before batch places (before + 1) b.docs));
      families = families-append 1 docs rows old.families (λ q. families-new before batch places q b.docs is.families);
      fit = all-append (doc_fits fields' batch) docs rows (all-weaker (doc_fits fields batches) (doc_fits fields' batch) docs (λ row h. doc-more fields batches fields' batch row more (omega arith) h) old.fit)
          (doc-all (doc_fits fields' batch) (batch_doc_fits (length b.fields)) before batch places (before + 1) b.docs (λ i doc lt le h. doc-fit fields' batch (length b.fields) before batch places i doc (omega arith) (omega arith) (omega arith) h) is.docs);
      written = all-append doc_written docs rows old.written (doc-all doc_written (λ doc. leb doc.parent (length b.docs) && batch_doc_written doc) before batch places (before + 1) b.docs
          (λ i doc lt le h. doc-writes before batch (length b.docs) places i doc few (omega arith) (omega arith) (omega arith) (omega arith) none h)
          (both-all (λ (doc : BatchDoc). leb doc.parent (length b.docs)) batch_doc_written b.docs low is.written));
    }
