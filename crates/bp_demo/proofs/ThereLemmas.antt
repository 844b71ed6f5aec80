-- The documents of a demo as an import keeps them: each is found by its number, and so is its first page.
use Rattle.std.proofs.Common.{◌≡◌, ℕ, ◌+◌, ◌*◌, ◌<◌, ◌≤◌, ◌^◌, ◌&&◌, ◌==◌, Bool, true, false, cond, nat_le, nat_lt, eqb, List, [], ◌∷◌, ◌++◌, length, map, slice_index_or, Some, refl, sym, ap, ◌∙◌, subst, append_assoc, arith}
use Rattle.std.specs.Prelude.{is_some}
use Rattle.std.specs.List.{list_all}
use Rattle.std.proofs.lemmas.Bool.{and_from, and_parts, eq-eqb, le-leb, leb-true, lt-ltb, ltb-true, ne_eqb}
use Rattle.bp_core.specs.Rectangle.{lies_inside}
use Rattle.bp_core.specs.Sorted.{find_key, two_keys}
use Rattle.bp_matter.specs.Matter.{doc_key, page_key}
use Rattle.bp_matter.specs.ValidPages.{inside_page}
use Rattle.bp_matter.specs.declared.batches.BatchDoc.{BatchDoc}
use Rattle.bp_matter.specs.declared.batches.BatchPage.{BatchPage}
use Rattle.bp_matter.specs.declared.rows.DocRow.{DocRow}
use Rattle.bp_matter.specs.declared.rows.PageRow.{PageRow}
use Rattle.bp_rules.specs.ImportRows.{doc_row, doc_rows, of_docs, of_pages, page_row}
use Rattle.bp_rules.proofs.ListLemmas.{all-append, all-weaker}
use Rattle.bp_demo.specs.Calls.{first_rect, first_word}
use Rattle.bp_demo.proofs.SheetLemmas.{doc_sheets, is_sheet, sheet_parts}

-- ---- rows of lower keys

pub find_behind : {T : Type 0} (key : T → ℕ) (k : ℕ) (before rest : List T) → list_all (λ (x : T). nat_lt (key x) k) before ≡ true → find_key key k (before ++ rest) ≡ find_key key k rest
find_behind key k [] rest all = refl
find_behind {T} key k (x ∷ before) rest all =
    let parts = and_parts (nat_lt (key x) k) (list_all (λ (y : T). nat_lt (key y) k) before) all in
    let below : key x < k = ltb-true (key x) k parts.0 in
    let other : eqb (key x) k ≡ false = ne_eqb (key x) k (λ e. omega (arith, below, e)) in
    rw other (find_behind key k before rest parts.1)

pub below_more : {T : Type 0} (key : T → ℕ) (k more : ℕ) (rows : List T) → k ≤ more → list_all (λ (x : T). nat_lt (key x) k) rows ≡ true → list_all (λ (x : T). nat_lt (key x) more) rows ≡ true
below_more {T} key k more rows up all =
    all-weaker (λ (x : T). nat_lt (key x) k) (λ (x : T). nat_lt (key x) more) rows (λ x h. lt-ltb (key x) more (omega (arith, up, ltb-true (key x) k h))) all

pages_below : (n k high : ℕ) (ps : List BatchPage) → n * 4294967296 + (k + length ps) ≤ high → list_all (λ (row : PageRow). nat_lt (page_key row) high) (of_pages page_row n k ps) ≡ true
pages_below n k high [] room = refl
pages_below n k high (p ∷ ps) room =
    and_from (nat_lt (two_keys n k) high) _ (lt-ltb (two_keys n k) high (omega (arith, room))) (pages_below n (k + 1) high ps (omega (arith, room)))

-- ---- the first page of a document

pub record FirstReady (pages : List PageRow) (n : ℕ) (ps : List BatchPage) : Type 0 where
  pub page : PageRow
  pub there : find_key page_key (two_keys n 1) pages ≡ Some page
  pub inside : inside_page (Some page) (first_word ps) ≡ true
  pub wide : ((first_word ps).width == 0) ≡ false
  pub high : ((first_word ps).height == 0) ≡ false

first_ready : (n : ℕ) (before rest : List PageRow) (ps : List BatchPage) → list_all (λ (row : PageRow). nat_lt (page_key row) (two_keys n 1)) before ≡ true
    → 1 ≤ length ps → list_all is_sheet ps ≡ true → FirstReady (before ++ (of_pages page_row n 1 ps ++ rest)) n ps
first_ready n before rest [] below some sheets = absurd (omega (arith, some))
first_ready n before rest (p ∷ ps) below some sheets =
    let parts = and_parts (is_sheet p) (list_all is_sheet ps) sheets in
    let sheet = sheet_parts p.page.width p.page.height (first_rect p.words) parts.0 in
    let behind : find_key page_key (two_keys n 1) (page_row n 1 p ∷ (of_pages page_row n 2 ps ++ rest)) ≡ Some (page_row n 1 p) =
    ap (λ (b : Bool). cond b (Some (page_row n 1 p)) (find_key page_key (two_keys n 1) (of_pages page_row n 2 ps ++ rest))) (eq-eqb (two_keys n 1) (two_keys n 1) refl) in
    record {
      page = page_row n 1 p;
      there = find_behind page_key (two_keys n 1) before (page_row n 1 p ∷ (of_pages page_row n 2 ps ++ rest)) below ∙ behind;
      inside =
          ap (λ (w : ℕ). lies_inside (first_rect p.words) w p.page.height) sheet.wide
          ∙ ap (λ (h : ℕ). lies_inside (first_rect p.words) 850 h) sheet.high ∙ sheet.inside;
      wide = sheet.some_width;
      high = sheet.some_height;
    }

-- ---- all documents

-- a document of this number and its first page are found
pub record IsReady (docs : List DocRow) (pages : List PageRow) (n : ℕ) (doc : BatchDoc) : Type 0 where
  pub there : is_some (find_key doc_key n docs) ≡ true
  pub first : FirstReady pages n doc.pages

-- and those of the numbers behind it
abbrev pub AreReady : List DocRow → List PageRow → ℕ → List BatchDoc → Type 0
AreReady rows pages n [] = Unit {0}
AreReady rows pages n (doc ∷ docs) = IsReady rows pages n doc × AreReady rows pages (n + 1) docs

ready_from : (rows : List DocRow) (pages : List PageRow) (n : ℕ) (docs : List BatchDoc) → list_all (λ (row : DocRow). nat_lt (doc_key row) n) rows ≡ true
    → list_all (λ (row : PageRow). nat_lt (page_key row) (two_keys n 1)) pages ≡ true
    → list_all doc_sheets docs ≡ true → list_all (λ (doc : BatchDoc). nat_le (length doc.pages) 2000) docs ≡ true
    → AreReady (rows ++ doc_rows 0 1 [] n docs) (pages ++ of_docs page_row n docs) n docs
ready_from rows pages n [] below lower sheets few = tt
ready_from rows pages n (doc ∷ docs) below lower sheets few =
    let sheet = and_parts (doc_sheets doc) (list_all doc_sheets docs) sheets in
    let own = and_parts (nat_le 1 (length doc.pages)) (list_all is_sheet doc.pages) sheet.0 in
    let small = and_parts (nat_le (length doc.pages) 2000) (list_all (λ (d : BatchDoc). nat_le (length d.pages) 2000) docs) few in
    let least : 1 ≤ length doc.pages = leb-true 1 (length doc.pages) own.0 in
    let most : length doc.pages ≤ 2000 = leb-true (length doc.pages) 2000 small.0 in
    let row = doc_row 0 1 [] n doc in
    let own_pages = of_pages page_row n 1 doc.pages in
    let behind : find_key doc_key n (row ∷ doc_rows 0 1 [] (n + 1) docs) ≡ Some row =
    ap (λ (b : Bool). cond b (Some row) (find_key doc_key n (doc_rows 0 1 [] (n + 1) docs))) (eq-eqb n n refl) in
    let there : is_some (find_key doc_key n (rows ++ (row ∷ doc_rows 0 1 [] (n + 1) docs))) ≡ true =
    ap is_some (find_behind doc_key n rows (row ∷ doc_rows 0 1 [] (n + 1) docs) below ∙ behind) in
    let more_rows : list_all (λ (r : DocRow). nat_lt (doc_key r) (n + 1)) (rows ++ row ∷ []) ≡ true =
    all-append (λ (r : DocRow). nat_lt (doc_key r) (n + 1)) rows (row ∷ []) (below_more doc_key n (n + 1) rows (omega arith) below) (and_from (nat_lt n (n + 1)) true (lt-ltb n (n + 1) (omega arith)) refl) in
    let more_pages : list_all (λ (r : PageRow). nat_lt (page_key r) (two_keys (n + 1) 1)) (pages ++ own_pages) ≡ true =
    all-append (λ (r : PageRow). nat_lt (page_key r) (two_keys (n + 1) 1)) pages own_pages
    (below_more page_key (two_keys n 1) (two_keys (n + 1) 1) pages (omega arith) lower) (pages_below n 1 (two_keys (n + 1) 1) doc.pages (omega (arith, most))) in
    let rest : AreReady ((rows ++ row ∷ []) ++ doc_rows 0 1 [] (n + 1) docs) ((pages ++ own_pages) ++ of_docs page_row (n + 1) docs) (n + 1) docs =
    ready_from (rows ++ row ∷ []) (pages ++ own_pages) (n + 1) docs more_rows more_pages sheet.1 small.1 in
    let same_rows : (rows ++ row ∷ []) ++ doc_rows 0 1 [] (n + 1) docs ≡ rows ++ (row ∷ doc_rows 0 1 [] (n + 1) docs) = append_assoc rows (row ∷ []) (doc_rows 0 1 [] (n + 1) docs) in
    let same_pages : (pages ++ own_pages) ++ of_docs page_row (n + 1) docs ≡ pages ++ (own_pages ++ of_docs page_row (n + 1) docs) = append_assoc pages own_pages (of_docs page_row (n + 1) docs) in
    let by_rows : AreReady (rows ++ (row ∷ doc_rows 0 1 [] (n + 1) docs)) ((pages ++ own_pages) ++ of_docs page_row (n + 1) docs) (n + 1) docs =
    subst (λ (rs : List DocRow). AreReady rs ((pages ++ own_pages) ++ of_docs page_row (n + 1) docs) (n + 1) docs) same_rows rest in
    let by_pages : AreReady (rows ++ (row ∷ doc_rows 0 1 [] (n + 1) docs)) (pages ++ (own_pages ++ of_docs page_row (n + 1) docs)) (n + 1) docs =
    subst (λ (ps : List PageRow). AreReady (rows ++ (row ∷ doc_rows 0 1 [] (n + 1) docs)) ps (n + 1) docs) same_pages by_rows in
    (record { there = there; first = first_ready n pages (of_docs page_row (n + 1) docs) doc.pages lower least own.1 }, by_pages)

-- of all documents of a batch that comes first
pub all_ready : (docs : List BatchDoc) → list_all doc_sheets docs ≡ true → list_all (λ (doc : BatchDoc). nat_le (length doc.pages) 2000) docs ≡ true
    → AreReady (doc_rows 0 1 [] 1 docs) (of_docs page_row 1 docs) 1 docs
all_ready docs sheets few = ready_from [] [] 1 docs refl refl sheets few

-- ---- how many there are

pub rows_long : (n : ℕ) (docs : List BatchDoc) → length (doc_rows 0 1 [] n docs) ≡ length docs
rows_long n [] = refl
rows_long n (doc ∷ docs) = omega (arith, rows_long (n + 1) docs)

-- and no document has many pages
pub page_numbers_few : (n : ℕ) (docs : List BatchDoc) → list_all (λ (doc : BatchDoc). nat_le (length doc.pages) 2000) docs ≡ true → list_all (λ (row : DocRow). nat_le row.pages 2000) (doc_rows 0 1 [] n docs) ≡ true
page_numbers_few n [] few = refl
page_numbers_few n (doc ∷ docs) few =
    let parts = and_parts (nat_le (length doc.pages) 2000) (list_all (λ (d : BatchDoc). nat_le (length d.pages) 2000) docs) few in
    and_from (nat_le (length doc.pages) 2000) _ parts.0 (page_numbers_few (n + 1) docs parts.1)
