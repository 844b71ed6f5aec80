-- The sides of drawn pages, and the first word on them: each is a sheet of 850 by 1,100 pixels, and its first word lies inside it.
use Rattle.std.proofs.Common.{◌≡◌, ℕ, zero, suc, ◌+◌, ◌*◌, ◌<◌, ◌≤◌, ◌&&◌, ◌==◌, Bool, true, false, not, nat_le, cond, List, [], ◌∷◌, ◌++◌, length, refl, sym, ap, ◌∙◌, arith}
use Rattle.std.specs.List.{list_all}
use Rattle.std.proofs.lemmas.Bool.{and_from, and_parts, eqb-true, le-leb}
use Rattle.std.proofs.lemmas.List.{length-append}
use Rattle.std.proofs.lemmas.List.Folds.{list_all-append}
use Rattle.bp_core.specs.Rectangle.{lies_inside}
use Rattle.bp_core.specs.declared.rectangle.Rect.{Rect}
use Rattle.bp_matter.specs.Batches.{pages_in}
use Rattle.bp_matter.specs.declared.batches.BatchDoc.{BatchDoc}
use Rattle.bp_matter.specs.declared.batches.BatchPage.{BatchPage}
use Rattle.bp_rules.specs.Limits.{pixels_in, pixels_on}
use Rattle.bp_rules.proofs.ListLemmas.{not_true}
use Rattle.bp_demo.specs.Calls.{first_rect}
use Rattle.bp_demo.specs.Documents.{Pile, begin_document, document, documents, first_page, go_on, last_drawn, next_page, next_parent, page_from, pages_drawn}
use Rattle.bp_demo.specs.Draws.{after_draws, drawn, next}
use Rattle.bp_demo.specs.Pages.{page_image, words_drawn}
use Rattle.bp_demo.proofs.PageLemmas.{word_fits}
use Rattle.bp_demo.proofs.TextLemmas.{apart}

-- ---- one page

-- the sides of a page, and its first word
abbrev pub sheet_test : ℕ → ℕ → Rect → Bool
sheet_test w h r = (w == 850) && ((h == 1100) && (lies_inside r 850 1100 && (not (r.width == 0) && not (r.height == 0))))

abbrev pub is_sheet : BatchPage → Bool
is_sheet p = sheet_test p.page.width p.page.height (first_rect p.words)

-- what the test says
pub record SheetParts (w h : ℕ) (r : Rect) : Type 0 where
  pub wide : w ≡ 850
  pub high : h ≡ 1100
  pub inside : lies_inside r 850 1100 ≡ true
  pub some_width : (r.width == 0) ≡ false
  pub some_height : (r.height == 0) ≡ false

pub sheet_parts : (w h : ℕ) (r : Rect) → sheet_test w h r ≡ true → SheetParts w h r
sheet_parts w h r test =
    let a = and_parts (w == 850) ((h == 1100) && (lies_inside r 850 1100 && (not (r.width == 0) && not (r.height == 0)))) test in
    let b = and_parts (h == 1100) (lies_inside r 850 1100 && (not (r.width == 0) && not (r.height == 0))) a.1 in
    let c = and_parts (lies_inside r 850 1100) (not (r.width == 0) && not (r.height == 0)) b.1 in
    let d = and_parts (not (r.width == 0)) (not (r.height == 0)) c.1 in
    record {
      wide = eqb-true w 850 a.0;
      high = eqb-true h 1100 b.0;
      inside = c.0;
      some_width = not_true (r.width == 0) d.0;
      some_height = not_true (r.height == 0) d.1;
    }

pub sheet_drawn : (x : ℕ) → is_sheet (page_from x) ≡ true
unfolding page_image words_drawn after_draws
sheet_drawn x =
    and_from (850 == 850) _ refl (and_from (1100 == 1100) _ refl
    (and_from _ _ (and_parts _ _ (word_fits x 0 (omega arith))).0
    (and_from _ _ (apart (1 + drawn (next (next x)) 150) 0 (λ e. omega (arith, e))) refl)))

-- ---- documents

abbrev pub doc_sheets : BatchDoc → Bool
doc_sheets doc = nat_le 1 (length doc.pages) && list_all is_sheet doc.pages

-- what holds of the pages so far
pub record AreSheets (pile : Pile) : Type 0 where
  pub done : list_all doc_sheets pile.done ≡ true
  pub pages : list_all is_sheet pile.pages ≡ true
  pub some : 1 ≤ length pile.pages

pub documents_sheets : (pile : Pile) → AreSheets pile → list_all doc_sheets (documents pile) ≡ true
documents_sheets pile s =
    list_all-append doc_sheets pile.done (document (last_drawn pile) pile.parent pile.pages ∷ [])
    ∙ and_from _ _ s.done (and_from (doc_sheets (document (last_drawn pile) pile.parent pile.pages)) true
    (and_from (nat_le 1 (length pile.pages)) (list_all is_sheet pile.pages) (le-leb 1 (length pile.pages) s.some) s.pages) refl)

first_sheets : (seed : ℕ) → AreSheets (first_page seed)
first_sheets seed = record { done = refl; pages = and_from (is_sheet (page_from seed)) true (sheet_drawn seed) refl; some = omega arith }

begun_sheets : (pile : Pile) (parent x : ℕ) → AreSheets pile → AreSheets (begin_document pile parent x)
begun_sheets pile parent x s = record { done = documents_sheets pile s; pages = and_from (is_sheet (page_from x)) true (sheet_drawn x) refl; some = omega arith }

gone_on_sheets : (pile : Pile) (x : ℕ) → AreSheets pile → AreSheets (go_on pile x)
gone_on_sheets pile x s =
    let some = s.some in
    record {
      done = s.done;
      pages = list_all-append is_sheet pile.pages (page_from x ∷ []) ∙ and_from _ _ s.pages (and_from (is_sheet (page_from x)) true (sheet_drawn x) refl);
      some = omega (arith, length-append pile.pages (page_from x ∷ []));
    }

either_sheets : (pile : Pile) (x : ℕ) (begins : Bool) → AreSheets pile → AreSheets (cond begins (begin_document pile (next_parent pile (next x)) (next x)) (go_on pile x))
either_sheets pile x true s = begun_sheets pile (next_parent pile (next x)) (next x) s
either_sheets pile x false s = gone_on_sheets pile x s

pages_sheets : (seed n : ℕ) → AreSheets (pages_drawn seed n)
pages_sheets seed zero = first_sheets seed
pages_sheets seed (suc n) =
    let pile = pages_drawn seed n in
    either_sheets pile (next pile.state) (drawn (next pile.state) 3 == 0) (pages_sheets seed n)

-- all documents that are drawn have pages, each of them a sheet
pub drawn_sheets : (seed n : ℕ) → list_all doc_sheets (documents (pages_drawn seed n)) ≡ true
drawn_sheets seed n = documents_sheets (pages_drawn seed n) (pages_sheets seed n)

-- ---- pixels

one_page : (w h : ℕ) (r : Rect) → sheet_test w h r ≡ true → w * h ≡ 935000
one_page w h r test =
    let parts = sheet_parts w h r test in
    ap (λ (a : ℕ). a * h) parts.wide ∙ ap (λ (b : ℕ). 850 * b) parts.high

pixels_of_pages : (ps : List BatchPage) → list_all is_sheet ps ≡ true → pixels_on ps ≡ 935000 * length ps
pixels_of_pages [] all = refl
pixels_of_pages (p ∷ ps) all =
    let parts = and_parts (is_sheet p) (list_all is_sheet ps) all in
    omega (arith, one_page p.page.width p.page.height (first_rect p.words) parts.0, pixels_of_pages ps parts.1)

-- the pixels of documents, by the number of their pages
pub pixels_of_sheets : (docs : List BatchDoc) → list_all doc_sheets docs ≡ true → pixels_in docs ≡ 935000 * pages_in docs
pixels_of_sheets [] all = refl
pixels_of_sheets (doc ∷ docs) all =
    let parts = and_parts (doc_sheets doc) (list_all doc_sheets docs) all in
    let pages = and_parts (nat_le 1 (length doc.pages)) (list_all is_sheet doc.pages) parts.0 in
    omega (arith, pixels_of_pages doc.pages pages.1, pixels_of_sheets docs parts.1)

-- no document has more pages than all together
pub pages_few : (most : ℕ) (docs : List BatchDoc) → pages_in docs ≤ most → list_all (λ (doc : BatchDoc). nat_le (length doc.pages) most) docs ≡ true
pages_few most [] few = refl
pages_few most (doc ∷ docs) few =
    and_from (nat_le (length doc.pages) most) _ (le-leb (length doc.pages) most (omega (arith, few))) (pages_few most docs (omega (arith, few)))
