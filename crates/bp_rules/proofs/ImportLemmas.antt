-- A matter stays valid where a batch is imported that passes no limit.
use Rattle.std.proofs.Common.{◌≡◌, ℕ, ◌+◌, ◌*◌, ◌≤◌, ◌<◌, ◌^◌, Bool, true, false, not, cond, eqb, leb, ltb, ◌&&◌, ◌||◌, List, [], ◌∷◌, ◌++◌, length, Option, Some, None, refl, sym, ap, ◌∙◌, inl, inr, arith, subst}
use Rattle.std.specs.List.{list_all}
use Rattle.std.specs.Str.{bytes_eq}
use Rattle.std.specs.Prelude.{encode_utf8_all}
use Rattle.std.specs.Str.{all_scalars}
use Rattle.std.proofs.Math.Utf8.{encode}
use Rattle.std.proofs.lemmas.Str.{encode_ascii}
use Rattle.std.proofs.lemmas.Bool.{and_parts, and_from, cases_Bool, eqb-true, ltb-false, le-leb, leb-true, lt-ltb, or_cases}
use Rattle.bp_core.specs.Sorted.{ascends, row_key}
use Rattle.bp_matter.specs.KeptRows.{rows_of}
use Rattle.bp_matter.specs.Texts.{is_batch_name, is_id_character, is_volume_character}
use Rattle.std.proofs.lemmas.List.{length-append, length-map}
use Rattle.bp_core.specs.declared.rules.Rule.{Rule}
use Rattle.bp_matter.specs.Batches.{BatchShown, IsBatch, batch_page_fits, batch_word_fits, pages_in, parents_stand}
use Rattle.bp_matter.specs.Matter.{Matter, doc_key}
use Rattle.bp_matter.specs.ValidDocs.{DocFacts, are_families}
use Rattle.bp_matter.specs.ValidPages.{strips_fit}
use Rattle.bp_matter.specs.ValidRows.{is_numbered}
use Rattle.bp_matter.specs.Valid.{IsValid}
use Rattle.bp_matter.specs.Written.{batch_written, doc_written, field_written, is_short, is_word, page_written, words_written}
use Rattle.bp_rows.specs.Limits.{are_within, sides_are_imported}
use Rattle.bp_matter.specs.declared.batches.BatchDoc.{BatchDoc}
use Rattle.bp_matter.specs.declared.batches.BatchPage.{BatchPage}
use Rattle.bp_matter.specs.declared.rows.BatchRow.{BatchRow}
use Rattle.bp_matter.specs.declared.rows.DocRow.{DocRow}
use Rattle.bp_rules.specs.Changes.{CanBeMade, with_rows}
use Rattle.bp_rules.specs.declared.changes.Edit.TheVariants.{Import}
use Rattle.bp_rules.proofs.PutLemmas.{import-puts}
use Rattle.bp_rules.specs.ImportRows.{batch_row, doc_rows, import_rows, lacking, new_fields, of_docs, page_row, places_of}
use Rattle.bp_rules.specs.Importing.{batch_with}
use Rattle.bp_rules.specs.Limits.{batches_after, documents_after, fields_after, limit_passed, WithinLimits, pages_after, pixels_after, pixels_in, pixels_on, strip_bytes_after}
use Rattle.bp_rules.specs.Written.{RowsWritten}
use Rattle.bp_rules.proofs.ListLemmas.{assoc3, all-behind, all-weaker, find-none}
use Rattle.bp_rules.proofs.DocLemmas.{batch-facts, doc-all, doc-facts, field-count, field-facts, parents-low}
use Rattle.bp_rules.proofs.PageLemmas.{page-facts, word-facts}
use Rattle.bp_rules.proofs.ProductionLemmas.{box-facts, call-facts, entry-facts, held-facts, parents-before, production-facts}

-- a test that fails lets the next ones decide
passed : (limit reached : ℕ) (rule : Rule) (rest : Option Rule) → cond (ltb limit reached) (Some rule) rest ≡ None → (reached ≤ limit) × (rest ≡ None)
passed limit reached rule rest h =
    elim (cases_Bool (ltb limit reached)) [
      | inl over ↦ (let some : Some rule ≡ None = rw over at h in absurd cc)
      | inr within ↦ (ltb-false limit reached within, rw within at h)
    ]

-- the same of a test that has to hold
held : (fits : Bool) (rule : Rule) (rest : Option Rule) → cond (not fits) (Some rule) rest ≡ None → (fits ≡ true) × (rest ≡ None)
held true rule rest h = (refl, h)
held false rule rest h = absurd cc

pub within-limits : (m : Matter) (b : BatchShown) → limit_passed m b ≡ None → WithinLimits m b
within-limits m b h =
    let p1 = passed 10000 (documents_after m b) _ _ h in
    let p2 = passed 20000 (pages_after m b) _ _ p1.1 in
    let p3 = passed 200000000000 (pixels_after m b) _ _ p2.1 in
    let p8 = held (strips_fit (pixels_after m b) (strip_bytes_after m b)) _ _ p3.1 in
    let p4 = passed 64 (fields_after m b) _ _ p8.1 in
    let p5 = passed 1000 (batches_after m) _ _ p4.1 in
    record { documents = p1.0; pages = p2.0; pixels = p3.0; strips = p8.0; fields = p4.0; batches = p5.0 }

-- the parents of the documents that were there, and of those that come
old-parents : (docs : List DocRow) → is_numbered doc_key 1 docs ≡ true → are_families 1 docs ≡ true → list_all (λ (d : DocRow). leb d.parent.0 (length docs)) docs ≡ true
old-parents [] num fam = refl
old-parents (row ∷ rows) num fam = parents-before 1 1 (length (row ∷ rows)) (row ∷ rows) num fam (omega arith) (omega arith)

new-parents : (before batch : ℕ) (places : List (Option ℕ)) (docs : List BatchDoc) → parents_stand 1 1 docs ≡ true → list_all (λ (d : DocRow). leb (before + 1) d.parent.0) (doc_rows before batch places (before + 1) docs) ≡ true
new-parents before batch places docs h =
    doc-all (λ (d : DocRow). leb (before + 1) d.parent.0) (λ (doc : BatchDoc). leb 1 doc.parent && leb doc.parent (length docs)) before batch places (before + 1) docs
    (λ i doc lt le x. le-leb (before + 1) (before + doc.parent) (omega (arith, leb-true 1 doc.parent (and_parts (leb 1 doc.parent) (leb doc.parent (length docs)) x).0)))
    (parents-low 1 1 (length docs) docs h (omega arith) (omega arith) (omega arith))

-- the matter after the import is valid
pub import-valid : (m : Matter) (b : BatchShown) → IsValid m → IsBatch b → limit_passed m b ≡ None → batch_with b.name m ≡ None → is_short b.name ≡ true → is_short [] ≡ true → IsValid (with_rows m (import_rows m b))
import-valid m b v is h apart short none =
    let l = within-limits m b h in
    let fields = new_fields m b in
    let places = places_of b.fields (m.fields ++ fields) in
    let before = length m.docs in
    let batch = length m.batches + 1 in
    let docs = doc_rows before batch places (before + 1) b.docs in
    let pages = of_docs page_row (before + 1) b.docs in
    let all_fields : length (m.fields ++ fields) ≡ length m.fields + length (lacking m.fields b.fields) = length-append m.fields fields ∙ ap (λ n. length m.fields + n) (field-count (length m.fields + 1) (lacking m.fields b.fields)) in
    let count : length places ≡ length (m.fields ++ fields) = length-map (m.fields ++ fields) _ in
    let more_fields : length m.fields ≤ length (m.fields ++ fields) = omega arith in
    let more_docs : length m.docs ≤ length (m.docs ++ docs) = omega (arith, length-append m.docs docs) in
    let batches : length (m.batches ++ batch_row batch b ∷ []) ≡ batch = length-append m.batches (batch_row batch b ∷ []) in
    let new_docs = doc-facts (length m.fields) (length m.batches) (length (m.fields ++ fields)) m.docs places b v.docs is more_fields count (omega (arith, l.fields)) (omega (arith, l.batches)) (omega (arith, l.documents)) (omega (arith, l.pages)) none in
    let new_pages = page-facts m.docs docs m.pages b batch places v.pages is refl new_docs.numbered new_docs.written (omega (arith, l.documents)) (omega (arith, l.pages)) (omega (arith, l.pixels)) l.strips in
    let low = old-parents m.docs v.docs.numbered v.docs.families in
    let above : list_all (λ (d : DocRow). leb (before + 1) d.parent.0) docs ≡ true = new-parents before batch places b.docs is.families in
    record {
      staff = v.staff;
      fields = field-facts m.fields b v.fields is (omega (arith, l.fields));
      docs = subst (λ n. DocFacts (length (m.fields ++ fields)) n (m.docs ++ docs)) (sym batches) new_docs;
      pages = new_pages;
      calls = call-facts (length m.staff) (length m.docs) (length (m.docs ++ docs)) m.calls more_docs v.calls;
      boxes = box-facts m.pages pages m.boxes v.boxes;
      held = held-facts (length m.fields) (length m.docs) (length (m.fields ++ fields)) (length (m.docs ++ docs)) m.held more_fields more_docs v.held;
      entries = entry-facts (length m.docs) (length (m.docs ++ docs)) m.entries more_docs v.entries;
      prefixes = v.prefixes;
      productions = production-facts before m.fields fields m.docs docs m.pages pages m.prefixes m.productions low above v.docs.numbered v.productions;
      batches = batch-facts m.batches b v.batches is (omega (arith, l.batches)) (find-none (λ (row : BatchRow). bytes_eq row.name b.name) m.batches apart) short;
      words = word-facts m.docs docs m.pages m.words b batch places v.words is refl new_docs.numbered new_docs.written new_pages.ascend (omega (arith, l.documents)) (omega (arith, l.pages));
      review = v.review;
    }

-- its rows have a writing
pub rows-written : (m : Matter) (b : BatchShown) → IsValid (with_rows m (import_rows m b)) → RowsWritten (import_rows m b)
rows-written m b v =
    let rows = import_rows m b in
    record {
      fields = all-behind field_written m.fields rows.fields v.fields.written;
      docs = all-behind doc_written m.docs rows.docs v.docs.written;
      pages = all-behind page_written m.pages rows.pages v.pages.written;
      batch = (and_parts (batch_written rows.batch) true (all-behind batch_written m.batches (rows.batch ∷ []) v.batches.written)).0;
      words = all-behind words_written m.words rows.words v.words.written;
    }

-- ---- what the loops need

page-bounded : (width height : ℕ) → sides_are_imported width height ≡ true → width * height ≤ 200000000
page-bounded width height h = leb-true (width * height) 200000000 (and_parts (are_within 20000 20000 width height) (leb (width * height) 200000000) h).1

-- each page has at most 200,000,000 pixels
pages-bounded : (ps : List BatchPage) → list_all batch_page_fits ps ≡ true → pixels_on ps ≤ 200000000 * length ps
pages-bounded [] all = omega arith
pages-bounded (p ∷ ps) all =
    let parts = and_parts (batch_page_fits p) (list_all batch_page_fits ps) all in
    let sides = (and_parts (sides_are_imported p.page.width p.page.height) (list_all (batch_word_fits p) p.words) parts.0).0 in
    omega (arith, page-bounded p.page.width p.page.height sides, pages-bounded ps parts.1)

pub pixels-bounded : (docs : List BatchDoc) → list_all (λ (doc : BatchDoc). list_all batch_page_fits doc.pages) docs ≡ true → pixels_in docs ≤ 200000000 * pages_in docs
pixels-bounded [] all = omega arith
pixels-bounded (doc ∷ docs) all =
    let parts = and_parts (list_all batch_page_fits doc.pages) (list_all (λ (d : BatchDoc). list_all batch_page_fits d.pages) docs) all in
    omega (arith, pages-bounded doc.pages parts.0, pixels-bounded docs parts.1)

-- the parents of a batch that passes no limit
pub parents-within : (before : ℕ) (docs : List BatchDoc) → parents_stand 1 1 docs ≡ true → before + length docs ≤ 10000 → list_all (λ (doc : BatchDoc). leb (before + doc.parent) 10000) docs ≡ true
parents-within before docs h few =
    all-weaker (λ (doc : BatchDoc). leb 1 doc.parent && leb doc.parent (length docs)) (λ (doc : BatchDoc). leb (before + doc.parent) 10000) docs
    (λ doc x. le-leb (before + doc.parent) 10000 (omega (arith, leb-true doc.parent (length docs) (and_parts (leb 1 doc.parent) (leb doc.parent (length docs)) x).1)))
    (parents-low 1 1 (length docs) docs h (omega arith) (omega arith) (omega arith))

-- ---- the name of a batch

volume-ascii : (c : ℕ) → is_volume_character c ≡ true → c < 128
volume-ascii c h =
    elim (or_cases (((leb 65 c && leb c 90) || (leb 48 c && leb c 57)) || eqb c 45) (eqb c 95) h) [
      | inl rest ↦
          elim (or_cases ((leb 65 c && leb c 90) || (leb 48 c && leb c 57)) (eqb c 45) rest) [
            | inl more ↦
                elim (or_cases (leb 65 c && leb c 90) (leb 48 c && leb c 57) more) [
                  | inl letter ↦ omega (arith, leb-true c 90 (and_parts (leb 65 c) (leb c 90) letter).1)
                  | inr digit ↦ omega (arith, leb-true c 57 (and_parts (leb 48 c) (leb c 57) digit).1)
                ]
            | inr sign ↦ omega (arith, eqb-true c 45 sign)
          ]
      | inr line ↦ omega (arith, eqb-true c 95 line)
    ]

id-ascii : (c : ℕ) → is_id_character c ≡ true → c < 128
id-ascii c h =
    elim (or_cases (is_volume_character c) (leb 97 c && leb c 122) h) [
      | inl volume ↦ volume-ascii c volume
      | inr small ↦ omega (arith, leb-true c 122 (and_parts (leb 97 c) (leb c 122) small).1)
    ]

ascii-encoded : (cs : List ℕ) → list_all is_id_character cs ≡ true → length (encode_utf8_all cs) ≤ length cs
ascii-encoded [] h = omega arith
ascii-encoded (c ∷ cs) h =
    let parts = and_parts (is_id_character c) (list_all is_id_character cs) h in
    let one : encode c ++ encode_utf8_all cs ≡ (c ∷ []) ++ encode_utf8_all cs = ap (λ (l : List ℕ). l ++ encode_utf8_all cs) (encode_ascii c (id-ascii c parts.0)) in
    rw one (omega (arith, ascii-encoded cs parts.1))

pub name-short : (name : List ℕ) → is_batch_name name ≡ true → all_scalars name ≡ true → is_short name ≡ true
name-short name h scalars =
    let p1 = and_parts (leb 1 (length name)) (leb (length name) 32 && list_all is_id_character name) (sym (assoc3 (leb 1 (length name)) (leb (length name) 32) (list_all is_id_character name)) ∙ h) in
    let p2 = and_parts (leb (length name) 32) (list_all is_id_character name) p1.1 in
    and_from (all_scalars name) (is_word (length (encode_utf8_all name))) scalars (lt-ltb (length (encode_utf8_all name)) (2 ^ 32) (omega (arith, leb-true (length name) 32 p2.0, ascii-encoded name p2.1)))

empty-short : is_short [] ≡ true
unfolding lib.Utf8.encode
empty-short = refl

-- all of it: the change of an import can be made, and its rows have a writing
pub import-made : (m : Matter) (b : BatchShown) → ((n : Matter) → IsValid n → ascends row_key 0 (rows_of n) ≡ true) → IsValid m → IsBatch b → limit_passed m b ≡ None → batch_with b.name m ≡ None → all_scalars b.name ≡ true
    → CanBeMade m (Import (import_rows m b)) × RowsWritten (import_rows m b)
import-made m b order v is h apart scalars =
    let valid = import-valid m b v is h apart (name-short b.name is.name scalars) empty-short in
    (record { valid = valid; rows = import-puts m (import_rows m b) (order (with_rows m (import_rows m b)) valid) }, rows-written m b valid)
