-- The pages and words that an import adds are valid ones, and those that were there stay valid.
use Rattle.std.proofs.Common.{◌≡◌, ℕ, ◌+◌, ◌*◌, ◌≤◌, ◌<◌, ◌^◌, Bool, true, eqb, leb, ◌&&◌, List, [], ◌∷◌, ◌++◌, length, drop, Option, Some, refl, sym, ap, ◌∙◌, arith, subst, zero, suc, append_assoc}
use Rattle.std.specs.List.{list_all}
use Rattle.std.specs.Option.{option_or}
use Rattle.std.proofs.Math.Seq.{drop-append_seam}
use Rattle.std.proofs.lemmas.Bool.{and_parts, and_from, eqb-true, eq-eqb, le-leb, lt-ltb, ltb-true}
use Rattle.std.proofs.lemmas.List.{length-append, nil_from_length, drop-append-le}
use Rattle.std.proofs.lemmas.List.Folds.{find-append}
use Rattle.bp_core.proofs.SortedLemmas.{ascends-lower}
use Rattle.bp_core.specs.Sorted.{ascends, find_key, two_keys}
use Rattle.bp_rows.specs.Limits.{sides_are_imported}
use Rattle.bp_matter.specs.Batches.{BatchShown, IsBatch, batch_doc_fits, batch_doc_written, batch_page_fits, batch_page_written, batch_word_fits, pages_in}
use Rattle.bp_matter.specs.Matter.{doc_key, page_key, words_key}
use Rattle.bp_matter.specs.Texts.{is_id_of_doc, is_value}
use Rattle.bp_matter.specs.ValidPages.{PageFacts, are_paged, has_rows, page_fits, pixels_of, strip_bytes_of, strip_size, strips_fit}
use Rattle.bp_matter.specs.ValidRows.{is_numbered}
use Rattle.bp_matter.specs.ValidWords.{WordFacts, word_fits, words_fit}
use Rattle.bp_matter.specs.Written.{are_few, doc_written, image_written, is_short, is_word, page_written, word_written, words_written}
use Rattle.bp_matter.specs.declared.batches.BatchDoc.{BatchDoc}
use Rattle.bp_matter.specs.declared.batches.BatchPage.{BatchPage}
use Rattle.bp_matter.specs.declared.rows.DocRow.{DocRow}
use Rattle.bp_matter.specs.declared.rows.PageRow.{PageRow}
use Rattle.bp_matter.specs.declared.rows.PageWords.{PageWords}
use Rattle.bp_rules.specs.ImportRows.{doc_rows, of_docs, of_pages, page_row, words_row}
use Rattle.bp_rules.specs.Limits.{pixels_in, pixels_on, strip_bytes_in, strip_bytes_on}
use Rattle.bp_rules.proofs.ListLemmas.{assoc4, assoc5, all-append, all-weaker, find-member, either_found}

-- ---- rows of pages, of any kind

pages-count : {T : Type 0} (row : ℕ → ℕ → BatchPage → T) (n k : ℕ) (ps : List BatchPage) → length (of_pages row n k ps) ≡ length ps
pages-count row n k [] = refl
pages-count row n k (p ∷ ps) = ap suc (pages-count row n (k + 1) ps)

pub docs-count : {T : Type 0} (row : ℕ → ℕ → BatchPage → T) (n : ℕ) (docs : List BatchDoc) → length (of_docs row n docs) ≡ pages_in docs
docs-count row n [] = refl
docs-count row n (doc ∷ docs) = omega (arith, length-append (of_pages row n 1 doc.pages) (of_docs row (n + 1) docs), pages-count row n 1 doc.pages, docs-count row (n + 1) docs)

pages-all : {T : Type 0} (p : T → Bool) (q : BatchPage → Bool) (row : ℕ → ℕ → BatchPage → T) (n k : ℕ) (ps : List BatchPage) → ((j : ℕ) (x : BatchPage) → j < k + length ps → q x ≡ true → p (row n j x) ≡ true) → list_all q ps ≡ true
    → list_all p (of_pages row n k ps) ≡ true
pages-all p q row n k [] each all = refl
pages-all p q row n k (x ∷ ps) each all =
    let parts = and_parts (q x) (list_all q ps) all in
    and_from (p (row n k x)) (list_all p (of_pages row n (k + 1) ps)) (each k x (omega arith) parts.0) (pages-all p q row n (k + 1) ps (λ j y lt h. each j y (omega arith) h) parts.1)

-- a test of the pages of a batch gives one of the rows
docs-all : {T : Type 0} (p : T → Bool) (q : BatchPage → Bool) (row : ℕ → ℕ → BatchPage → T) (n : ℕ) (docs : List BatchDoc) → ((i j : ℕ) (x : BatchPage) → i < n + length docs → j < 1 + pages_in docs → q x ≡ true → p (row i j x) ≡ true)
    → list_all (λ (doc : BatchDoc). list_all q doc.pages) docs ≡ true → list_all p (of_docs row n docs) ≡ true
docs-all p q row n [] each all = refl
docs-all p q row n (doc ∷ docs) each all =
    let parts = and_parts (list_all q doc.pages) (list_all (λ (d : BatchDoc). list_all q d.pages) docs) all in
    all-append p (of_pages row n 1 doc.pages) (of_docs row (n + 1) docs) (pages-all p q row n 1 doc.pages (λ j x lt h. each n j x (omega arith) (omega arith) h) parts.0)
    (docs-all p q row (n + 1) docs (λ i j x li lj h. each i j x (omega arith) (omega arith) h) parts.1)

-- ---- one row a page

pages-have : {T : Type 0} (key : T → ℕ) (row : ℕ → ℕ → BatchPage → T) (keyed : (n k : ℕ) (p : BatchPage) → key (row n k p) ≡ two_keys n k) (n k at : ℕ) (ps : List BatchPage) (rest : List T) → at ≡ two_keys n k
    → has_rows key (length ps) at (of_pages row n k ps ++ rest) ≡ true
pages-have key row keyed n k at [] rest e = refl
pages-have key row keyed n k at (p ∷ ps) rest e =
    and_from (eqb (key (row n k p)) at) (has_rows key (length ps) (at + 1) (of_pages row n (k + 1) ps ++ rest)) (eq-eqb (key (row n k p)) at (keyed n k p ∙ sym e)) (pages-have key row keyed n (k + 1) (at + 1) ps rest (omega arith))

paged-new : {T : Type 0} (key : T → ℕ) (row : ℕ → ℕ → BatchPage → T) (keyed : (n k : ℕ) (p : BatchPage) → key (row n k p) ≡ two_keys n k) (before batch : ℕ) (places : List (Option ℕ)) (n : ℕ) (docs : List BatchDoc)
    → are_paged key (doc_rows before batch places n docs) (of_docs row n docs) ≡ true
paged-new key row keyed before batch places n [] = refl
paged-new {T} key row keyed before batch places n (doc ∷ docs) =
    let mine = of_pages row n 1 doc.pages in
    let rest = of_docs row (n + 1) docs in
    let left : drop (length doc.pages) (mine ++ rest) ≡ rest = ap (λ k. drop k (mine ++ rest)) (sym (pages-count row n 1 doc.pages)) ∙ drop-append_seam mine rest in
    and_from (has_rows key (length doc.pages) (two_keys n 1) (mine ++ rest)) (are_paged key (doc_rows before batch places (n + 1) docs) (drop (length doc.pages) (mine ++ rest)))
    (pages-have key row keyed n 1 (two_keys n 1) doc.pages rest refl)
    (ap (are_paged key (doc_rows before batch places (n + 1) docs)) left ∙ paged-new key row keyed before batch places (n + 1) docs)

have-enough : {T : Type 0} (key : T → ℕ) (n k : ℕ) (rows : List T) → has_rows key n k rows ≡ true → n ≤ length rows
have-enough key zero k rows h = omega arith
have-enough key (suc n) k [] h = absurd cc
have-enough key (suc n) k (row ∷ rows) h = omega (arith, have-enough key n (k + 1) rows (and_parts (eqb (key row) k) (has_rows key n (k + 1) rows) h).1)

have-more : {T : Type 0} (key : T → ℕ) (n k : ℕ) (rows more : List T) → has_rows key n k rows ≡ true → has_rows key n k (rows ++ more) ≡ true
have-more key zero k rows more h = refl
have-more key (suc n) k [] more h = absurd cc
have-more key (suc n) k (row ∷ rows) more h =
    let parts = and_parts (eqb (key row) k) (has_rows key n (k + 1) rows) h in
    and_from (eqb (key row) k) (has_rows key n (k + 1) (rows ++ more)) parts.0 (have-more key n (k + 1) rows more parts.1)

paged-append : {T : Type 0} (key : T → ℕ) (docs docs' : List DocRow) (rows rows' : List T) → are_paged key docs rows ≡ true → are_paged key docs' rows' ≡ true → are_paged key (docs ++ docs') (rows ++ rows') ≡ true
paged-append {T} key [] docs' rows rows' h h' =
    let none : rows ≡ [] = nil_from_length rows (eqb-true (length rows) 0 h) in
    ap (λ (l : List T). are_paged key docs' (l ++ rows')) none ∙ h'
paged-append {T} key (doc ∷ docs) docs' rows rows' h h' =
    let parts = and_parts (has_rows key doc.pages (two_keys doc.doc.0 1) rows) (are_paged key docs (drop doc.pages rows)) h in
    let left : drop doc.pages (rows ++ rows') ≡ drop doc.pages rows ++ rows' = drop-append-le doc.pages rows rows' (have-enough key doc.pages (two_keys doc.doc.0 1) rows parts.0) in
    and_from (has_rows key doc.pages (two_keys doc.doc.0 1) (rows ++ rows')) (are_paged key (docs ++ docs') (drop doc.pages (rows ++ rows'))) (have-more key doc.pages (two_keys doc.doc.0 1) rows rows' parts.0)
    (ap (are_paged key (docs ++ docs')) left ∙ paged-append key docs docs' (drop doc.pages rows) rows' parts.1 h')

have-ascends : {T : Type 0} (key : T → ℕ) (n k next : ℕ) (rows : List T) → next ≡ k + n → has_rows key n k rows ≡ true → ascends key next (drop n rows) ≡ true → ascends key k rows ≡ true
have-ascends key zero k next rows e h up = let same : next ≡ k = omega arith in subst (λ j. ascends key j rows ≡ true) same up
have-ascends key (suc n) k next [] e h up = absurd cc
have-ascends key (suc n) k next (row ∷ rows) e h up =
    let parts = and_parts (eqb (key row) k) (has_rows key n (k + 1) rows) h in
    let is : key row ≡ k = eqb-true (key row) k parts.0 in
    let more = have-ascends key n (k + 1) next rows (omega arith) parts.1 up in
    and_from (leb k (key row)) (ascends key (key row + 1) rows) (le-leb k (key row) (omega arith)) (subst (λ j. ascends key (j + 1) rows ≡ true) (sym is) more)

pages_small : (doc : DocRow) → doc_written doc ≡ true → doc.pages < 2 ^ 32
pages_small doc h =
    let p1 = and_parts (is_word doc.doc.0) (is_word doc.parent.0 && (is_word doc.pages && (is_word doc.batch && (is_short doc.id && are_few is_short doc.values)))) h in
    let p2 = and_parts (is_word doc.parent.0) (is_word doc.pages && (is_word doc.batch && (is_short doc.id && are_few is_short doc.values))) p1.1 in
    ltb-true doc.pages (2 ^ 32) (and_parts (is_word doc.pages) (is_word doc.batch && (is_short doc.id && are_few is_short doc.values)) p2.1).0

-- rows for the pages of documents that are numbered ascend
paged-ascends : {T : Type 0} (key : T → ℕ) (n : ℕ) (docs : List DocRow) (rows : List T) → is_numbered doc_key n docs ≡ true → list_all doc_written docs ≡ true → are_paged key docs rows ≡ true → ascends key (two_keys n 1) rows ≡ true
paged-ascends {T} key n [] rows num wr h = let none : rows ≡ [] = nil_from_length rows (eqb-true (length rows) 0 h) in ap (λ (l : List T). ascends key (two_keys n 1) l) none
paged-ascends key n (doc ∷ docs) rows num wr h =
    let pn = and_parts (eqb doc.doc.0 n) (is_numbered doc_key (n + 1) docs) num in
    let pw = and_parts (doc_written doc) (list_all doc_written docs) wr in
    let ph = and_parts (has_rows key doc.pages (two_keys doc.doc.0 1) rows) (are_paged key docs (drop doc.pages rows)) h in
    let is : doc.doc.0 ≡ n = eqb-true doc.doc.0 n pn.0 in
    let small : doc.pages < 2 ^ 32 = pages_small doc pw.0 in
    let rest = paged-ascends key (n + 1) docs (drop doc.pages rows) pn.1 pw.1 ph.1 in
    let here : has_rows key doc.pages (two_keys n 1) rows ≡ true = subst (λ j. has_rows key doc.pages (two_keys j 1) rows ≡ true) is ph.0 in
    have-ascends key doc.pages (two_keys n 1) (two_keys n 1 + doc.pages) rows refl here (ascends-lower key (two_keys (n + 1) 1) (two_keys n 1 + doc.pages) (drop doc.pages rows) (omega arith) rest)

pub ascends-paged : {T : Type 0} (key : T → ℕ) (docs : List DocRow) (rows : List T) → is_numbered doc_key 1 docs ≡ true → list_all doc_written docs ≡ true → are_paged key docs rows ≡ true → ascends key 0 rows ≡ true
ascends-paged key docs rows num wr h = ascends-lower key (two_keys 1 1) 0 rows (omega arith) (paged-ascends key 1 docs rows num wr h)

-- ---- pages

pixels-append : (xs ys : List PageRow) → pixels_of (xs ++ ys) ≡ pixels_of xs + pixels_of ys
pixels-append [] ys = omega arith
pixels-append (x ∷ xs) ys = omega (arith, pixels-append xs ys)

pixels-pages : (n k : ℕ) (ps : List BatchPage) → pixels_of (of_pages page_row n k ps) ≡ pixels_on ps
pixels-pages n k [] = refl
pixels-pages n k (p ∷ ps) = ap (λ j. p.page.width * p.page.height + j) (pixels-pages n (k + 1) ps)

pixels-docs : (n : ℕ) (docs : List BatchDoc) → pixels_of (of_docs page_row n docs) ≡ pixels_in docs
pixels-docs n [] = refl
pixels-docs n (doc ∷ docs) = omega (arith, pixels-append (of_pages page_row n 1 doc.pages) (of_docs page_row (n + 1) docs), pixels-pages n 1 doc.pages, pixels-docs (n + 1) docs)

-- the bytes of strips, likewise
strips-append : (xs ys : List PageRow) → strip_bytes_of (xs ++ ys) ≡ strip_bytes_of xs + strip_bytes_of ys
strips-append [] ys = omega arith
strips-append (x ∷ xs) ys = omega (arith, strips-append xs ys)

strips-pages : (n k : ℕ) (ps : List BatchPage) → strip_bytes_of (of_pages page_row n k ps) ≡ strip_bytes_on ps
strips-pages n k [] = refl
strips-pages n k (p ∷ ps) = ap (λ j. strip_size p.page + j) (strips-pages n (k + 1) ps)

strips-docs : (n : ℕ) (docs : List BatchDoc) → strip_bytes_of (of_docs page_row n docs) ≡ strip_bytes_in docs
strips-docs n [] = refl
strips-docs n (doc ∷ docs) = omega (arith, strips-append (of_pages page_row n 1 doc.pages) (of_docs page_row (n + 1) docs), strips-pages n 1 doc.pages, strips-docs (n + 1) docs)

-- the pages of a batch fit, and are written
pub doc-pages-fit : (fields : ℕ) (doc : BatchDoc) → batch_doc_fits fields doc ≡ true → list_all batch_page_fits doc.pages ≡ true
doc-pages-fit fields doc h =
    let p1 = and_parts (leb 1 (length doc.pages)) (eqb (length doc.values) fields && (is_id_of_doc doc.id && (list_all is_value doc.values && list_all batch_page_fits doc.pages))) (sym (assoc5 (leb 1 (length doc.pages)) (eqb (length doc.values) fields) (is_id_of_doc doc.id) (list_all is_value doc.values) (list_all batch_page_fits doc.pages)) ∙ h) in
    let p2 = and_parts (eqb (length doc.values) fields) (is_id_of_doc doc.id && (list_all is_value doc.values && list_all batch_page_fits doc.pages)) p1.1 in
    let p3 = and_parts (is_id_of_doc doc.id) (list_all is_value doc.values && list_all batch_page_fits doc.pages) p2.1 in
    (and_parts (list_all is_value doc.values) (list_all batch_page_fits doc.pages) p3.1).1

doc-pages-written : (doc : BatchDoc) → batch_doc_written doc ≡ true → list_all batch_page_written doc.pages ≡ true
doc-pages-written doc h =
    let p1 = and_parts (is_word doc.parent) (is_short doc.id && (are_few is_short doc.values && list_all batch_page_written doc.pages)) (sym (assoc4 (is_word doc.parent) (is_short doc.id) (are_few is_short doc.values) (list_all batch_page_written doc.pages)) ∙ h) in
    let p2 = and_parts (is_short doc.id) (are_few is_short doc.values && list_all batch_page_written doc.pages) p1.1 in
    (and_parts (are_few is_short doc.values) (list_all batch_page_written doc.pages) p2.1).1

pub all-pages-fit : (b : BatchShown) → IsBatch b → list_all (λ (doc : BatchDoc). list_all batch_page_fits doc.pages) b.docs ≡ true
all-pages-fit b is = all-weaker (batch_doc_fits (length b.fields)) (λ (doc : BatchDoc). list_all batch_page_fits doc.pages) b.docs (λ doc h. doc-pages-fit (length b.fields) doc h) is.docs

all-pages-written : (b : BatchShown) → IsBatch b → list_all (λ (doc : BatchDoc). list_all batch_page_written doc.pages) b.docs ≡ true
all-pages-written b is = all-weaker batch_doc_written (λ (doc : BatchDoc). list_all batch_page_written doc.pages) b.docs (λ doc h. doc-pages-written doc h) is.written

page-fit : (n k : ℕ) (p : BatchPage) → batch_page_fits p ≡ true → page_fits (page_row n k p) ≡ true
page-fit n k p h = (and_parts (sides_are_imported p.page.width p.page.height) (list_all (batch_word_fits p) p.words) h).0

numbers-written : (n k : ℕ) (x : Bool) → n ≤ 10000 → k ≤ 20000 → x ≡ true → (is_word n && (is_word k && x)) ≡ true
numbers-written n k x ln lk h = and_from (is_word n) (is_word k && x) (lt-ltb n (2 ^ 32) (omega arith)) (and_from (is_word k) x (lt-ltb k (2 ^ 32) (omega arith)) h)

page-writes : (n k : ℕ) (p : BatchPage) → n ≤ 10000 → k ≤ 20000 → batch_page_written p ≡ true → page_written (page_row n k p) ≡ true
page-writes n k p ln lk h = numbers-written n k (image_written p.page) ln lk (and_parts (image_written p.page) (are_few word_written p.words) h).0

words-write : (n k : ℕ) (p : BatchPage) → n ≤ 10000 → k ≤ 20000 → batch_page_written p ≡ true → words_written (words_row n k p) ≡ true
words-write n k p ln lk h = numbers-written n k (are_few word_written p.words) ln lk (and_parts (image_written p.page) (are_few word_written p.words) h).1

-- the pages after an import
pub page-facts : (docs docs' : List DocRow) (pages : List PageRow) (b : BatchShown) (batch : ℕ) (places : List (Option ℕ)) → PageFacts docs pages → IsBatch b → docs' ≡ doc_rows (length docs) batch places (length docs + 1) b.docs
    → is_numbered doc_key 1 (docs ++ docs') ≡ true → list_all doc_written (docs ++ docs') ≡ true → length docs + length b.docs ≤ 10000 → length pages + pages_in b.docs ≤ 20000 → pixels_of pages + pixels_in b.docs ≤ 200000000000
    → strips_fit (pixels_of pages + pixels_in b.docs) (strip_bytes_of pages + strip_bytes_in b.docs) ≡ true
    → PageFacts (docs ++ docs') (pages ++ of_docs page_row (length docs + 1) b.docs)
page-facts docs docs' pages b batch places old is made num wr few few_pages few_pixels few_strips =
    let n = length docs + 1 in
    let rows = of_docs page_row n b.docs in
    let pixels : pixels_of (pages ++ rows) ≡ pixels_of pages + pixels_in b.docs = pixels-append pages rows ∙ ap (λ k. pixels_of pages + k) (pixels-docs n b.docs) in
    let strips : strip_bytes_of (pages ++ rows) ≡ strip_bytes_of pages + strip_bytes_in b.docs = strips-append pages rows ∙ ap (λ k. strip_bytes_of pages + k) (strips-docs n b.docs) in
    let paged : are_paged page_key (docs ++ docs') (pages ++ rows) ≡ true =
    paged-append page_key docs docs' pages rows old.paged (ap (λ (l : List DocRow). are_paged page_key l rows) made ∙ paged-new page_key page_row (λ i k p. refl) (length docs) batch places n b.docs) in
    record {
      ascend = ascends-paged page_key (docs ++ docs') (pages ++ rows) num wr paged;
      paged = paged;
      few = le-leb (length (pages ++ rows)) 20000 (omega (arith, length-append pages rows, docs-count page_row n b.docs));
      pixels_few = le-leb (pixels_of (pages ++ rows)) 200000000000 (omega (arith, pixels));
      strips_few = ap (λ k. strips_fit k (strip_bytes_of (pages ++ rows))) pixels ∙ ap (λ k. strips_fit (pixels_of pages + pixels_in b.docs) k) strips ∙ few_strips;
      fit = all-append page_fits pages rows old.fit (docs-all page_fits batch_page_fits page_row n b.docs (λ i j x li lj h. page-fit i j x h) (all-pages-fit b is));
      written = all-append page_written pages rows old.written (docs-all page_written batch_page_written page_row n b.docs (λ i j x li lj h. page-writes i j x (omega arith) (omega arith) h) (all-pages-written b is));
    }

-- ---- words

-- the words of each page lie inside it: it is found among the pages
words-inside : (n k low : ℕ) (ps : List BatchPage) (front behind : List PageRow) → ascends page_key low (front ++ (of_pages page_row n k ps ++ behind)) ≡ true → list_all batch_page_fits ps ≡ true
    → list_all (words_fit (front ++ (of_pages page_row n k ps ++ behind))) (of_pages words_row n k ps) ≡ true
words-inside n k low [] front behind up all = refl
words-inside n k low (p ∷ ps) front behind up all =
    let parts = and_parts (batch_page_fits p) (list_all batch_page_fits ps) all in
    let inside = (and_parts (sides_are_imported p.page.width p.page.height) (list_all (batch_word_fits p) p.words) parts.0).1 in
    let x = page_row n k p in
    let rest = of_pages page_row n (k + 1) ps ++ behind in
    let found : find_key page_key (two_keys n k) (front ++ x ∷ rest) ≡ Some x = find-member page_key low front x rest up in
    let moved : (front ++ x ∷ []) ++ rest ≡ front ++ x ∷ rest = append_assoc front (x ∷ []) rest in
    let here : list_all (word_fits (find_key page_key (two_keys n k) (front ++ x ∷ rest))) p.words ≡ true = ap (λ (o : Option PageRow). list_all (word_fits o) p.words) found ∙ inside in
    let more : list_all (words_fit ((front ++ x ∷ []) ++ rest)) (of_pages words_row n (k + 1) ps) ≡ true =
    words-inside n (k + 1) low ps (front ++ x ∷ []) behind (ap (λ (l : List PageRow). ascends page_key low l) moved ∙ up) parts.1 in
    and_from (words_fit (front ++ x ∷ rest) (words_row n k p)) (list_all (words_fit (front ++ x ∷ rest)) (of_pages words_row n (k + 1) ps)) here
    (subst (λ (l : List PageRow). list_all (words_fit l) (of_pages words_row n (k + 1) ps) ≡ true) moved more)

words-new : (n low : ℕ) (docs : List BatchDoc) (front : List PageRow) → ascends page_key low (front ++ of_docs page_row n docs) ≡ true → list_all (λ (doc : BatchDoc). list_all batch_page_fits doc.pages) docs ≡ true
    → list_all (words_fit (front ++ of_docs page_row n docs)) (of_docs words_row n docs) ≡ true
words-new n low [] front up all = refl
words-new n low (doc ∷ docs) front up all =
    let parts = and_parts (list_all batch_page_fits doc.pages) (list_all (λ (d : BatchDoc). list_all batch_page_fits d.pages) docs) all in
    let mine = of_pages page_row n 1 doc.pages in
    let rest = of_docs page_row (n + 1) docs in
    let moved : (front ++ mine) ++ rest ≡ front ++ (mine ++ rest) = append_assoc front mine rest in
    let more : list_all (words_fit ((front ++ mine) ++ rest)) (of_docs words_row (n + 1) docs) ≡ true =
    words-new (n + 1) low docs (front ++ mine) (ap (λ (l : List PageRow). ascends page_key low l) moved ∙ up) parts.1 in
    all-append (words_fit (front ++ (mine ++ rest))) (of_pages words_row n 1 doc.pages) (of_docs words_row (n + 1) docs) (words-inside n 1 low doc.pages front rest up parts.0)
    (subst (λ (l : List PageRow). list_all (words_fit l) (of_docs words_row (n + 1) docs) ≡ true) moved more)

-- a word lies as well on its page where more pages stand behind
words-stay : (pages more : List PageRow) (row : PageWords) → words_fit pages row ≡ true → words_fit (pages ++ more) row ≡ true
words-stay pages more row h =
    let a = find_key page_key (two_keys row.doc.0 row.page.0) pages in let c = find_key page_key (two_keys row.doc.0 row.page.0) more in
    let stays : list_all (word_fits (option_or a c)) row.words ≡ true = all-weaker (word_fits a) (word_fits (option_or a c)) row.words (λ w i. either_found (λ (o : Option PageRow). word_fits o w) refl a c i) h in
    subst (λ (o : Option PageRow). list_all (word_fits o) row.words ≡ true) (sym (find-append (λ (x : PageRow). eqb (page_key x) (two_keys row.doc.0 row.page.0)) pages more)) stays

-- the words after an import
pub word-facts : (docs docs' : List DocRow) (pages : List PageRow) (words : List PageWords) (b : BatchShown) (batch : ℕ) (places : List (Option ℕ)) → WordFacts docs pages words → IsBatch b → docs' ≡ doc_rows (length docs) batch places (length docs + 1) b.docs
    → is_numbered doc_key 1 (docs ++ docs') ≡ true → list_all doc_written (docs ++ docs') ≡ true → ascends page_key 0 (pages ++ of_docs page_row (length docs + 1) b.docs) ≡ true → length docs + length b.docs ≤ 10000 → pages_in b.docs ≤ 20000
    → WordFacts (docs ++ docs') (pages ++ of_docs page_row (length docs + 1) b.docs) (words ++ of_docs words_row (length docs + 1) b.docs)
word-facts docs docs' pages words b batch places old is made num wr up few few_pages =
    let n = length docs + 1 in
    let rows = of_docs words_row n b.docs in
    let pages' = pages ++ of_docs page_row n b.docs in
    let paged : are_paged words_key (docs ++ docs') (words ++ rows) ≡ true =
    paged-append words_key docs docs' words rows old.paged (ap (λ (l : List DocRow). are_paged words_key l rows) made ∙ paged-new words_key words_row (λ i k p. refl) (length docs) batch places n b.docs) in
    record {
      ascend = ascends-paged words_key (docs ++ docs') (words ++ rows) num wr paged;
      paged = paged;
      fit = all-append (words_fit pages') words rows (all-weaker (words_fit pages) (words_fit pages') words (λ row h. words-stay pages (of_docs page_row n b.docs) row h) old.fit) (words-new n 0 b.docs pages up (all-pages-fit b is));
      written = all-append words_written words rows old.written (docs-all words_written batch_page_written words_row n b.docs (λ i j x li lj h. words-write i j x (omega arith) (omega arith) h) (all-pages-written b is));
    }
