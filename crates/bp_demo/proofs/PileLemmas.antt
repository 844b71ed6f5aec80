-- Drawn documents are those of a batch: what holds of the pages so far, page by page.
use Rattle.std.proofs.Common.{◌≡◌, ℕ, zero, suc, ◌+◌, ◌<◌, ◌≤◌, ◌^◌, ◌==◌, ◌||◌, Bool, true, false, cond, List, [], ◌∷◌, ◌++◌, length, refl, sym, ap, ◌∙◌, arith}
use Rattle.std.specs.List.{list_all}
use Rattle.std.proofs.lemmas.Bool.{and_from, and_parts, eq-eqb, le-leb, lt-ltb, or_left, or_right}
use Rattle.std.proofs.lemmas.List.{length-append}
use Rattle.std.proofs.lemmas.List.Folds.{list_all-append}
use Rattle.bp_matter.specs.Batches.{batch_doc_fits, batch_doc_written, batch_page_fits, batch_page_written, pages_in, parents_stand}
use Rattle.bp_matter.specs.declared.batches.BatchDoc.{BatchDoc}
use Rattle.bp_matter.specs.declared.batches.BatchPage.{BatchPage}
use Rattle.bp_demo.specs.Documents.{Pile, begin_document, document, documents, first_page, go_on, last_drawn, next_parent, page_from, pages_drawn}
use Rattle.bp_demo.specs.Draws.{drawn, next}
use Rattle.bp_demo.proofs.PageLemmas.{page_fits, page_written}
use Rattle.bp_demo.proofs.TextLemmas.{id_fits, id_short}

-- ---- families

-- the parent of the last of these documents
abbrev last_parent : ℕ → List BatchDoc → ℕ
last_parent before [] = before
last_parent before (doc ∷ docs) = last_parent doc.parent docs

-- one more document stands where it is a parent itself or has the parent of the last one
stands_last : (n before : ℕ) (docs : List BatchDoc) (doc : BatchDoc) → parents_stand n before docs ≡ true
    → ((doc.parent == n + length docs) || (doc.parent == last_parent before docs)) ≡ true → parents_stand n before (docs ++ doc ∷ []) ≡ true
stands_last n before [] doc all one =
    let place : n ≡ n + 0 = omega arith in
    and_from ((doc.parent == n) || (doc.parent == before)) true (ap (λ k. (doc.parent == k) || (doc.parent == before)) place ∙ one) refl
stands_last n before (d ∷ ds) doc all one =
    let parts = and_parts ((d.parent == n) || (d.parent == before)) (parents_stand (n + 1) d.parent ds) all in
    let place : n + suc (length ds) ≡ (n + 1) + length ds = omega arith in
    and_from ((d.parent == n) || (d.parent == before)) (parents_stand (n + 1) d.parent (ds ++ doc ∷ [])) parts.0
    (stands_last (n + 1) d.parent ds doc parts.1 (ap (λ k. (doc.parent == k) || (doc.parent == last_parent d.parent ds)) (sym place) ∙ one))

last_of_more : (before : ℕ) (docs : List BatchDoc) (doc : BatchDoc) → last_parent before (docs ++ doc ∷ []) ≡ doc.parent
last_of_more before [] doc = refl
last_of_more before (d ∷ ds) doc = last_of_more d.parent ds doc

pages-append : (docs more : List BatchDoc) → pages_in (docs ++ more) ≡ pages_in docs + pages_in more
pages-append [] more = (let none : pages_in more ≡ 0 + pages_in more = omega arith in none)
pages-append (d ∷ ds) more = omega (arith, pages-append ds more)

-- ---- a document

doc_fits : (n parent : ℕ) (pages : List BatchPage) → n < 4294967296 → 1 ≤ length pages → list_all batch_page_fits pages ≡ true → batch_doc_fits 0 (document n parent pages) ≡ true
doc_fits n parent pages small some fit =
    and_from _ _ (and_from _ true (and_from _ _ (and_from _ true (le-leb 1 (length pages) some) refl) (id_fits n (omega arith))) refl) fit

doc_written : (n parent : ℕ) (pages : List BatchPage) → n < 4294967296 → parent < 4294967296 → list_all batch_page_written pages ≡ true → batch_doc_written (document n parent pages) ≡ true
doc_written n parent pages small low written =
    and_from _ _ (and_from _ true (and_from _ _ (lt-ltb parent (2 ^ 32) low) (id_short n small)) refl) written

-- ---- the pages so far

-- what holds behind the first page and so many more
pub record IsSound (n : ℕ) (pile : Pile) : Type 0 where
  pub families : parents_stand 1 1 pile.done ≡ true
  pub parent : ((pile.parent == last_drawn pile) || (pile.parent == last_parent 1 pile.done)) ≡ true
  pub low : pile.parent ≤ last_drawn pile
  pub fit : list_all (batch_doc_fits 0) pile.done ≡ true
  pub written : list_all batch_doc_written pile.done ≡ true
  pub some : 1 ≤ length pile.pages
  pub pages_fit : list_all batch_page_fits pile.pages ≡ true
  pub pages_written : list_all batch_page_written pile.pages ≡ true
  pub few : length pile.done ≤ n
  pub count : pages_in pile.done + length pile.pages ≡ n + 1

-- and of all documents then
pub record AreSound (n : ℕ) (docs : List BatchDoc) : Type 0 where
  pub families : parents_stand 1 1 docs ≡ true
  pub fit : list_all (batch_doc_fits 0) docs ≡ true
  pub written : list_all batch_doc_written docs ≡ true
  pub few : length docs ≤ n + 1
  pub count : pages_in docs ≡ n + 1

pub documents_sound : (n : ℕ) (pile : Pile) → n < 2000 → IsSound n pile → AreSound n (documents pile)
documents_sound n pile small s =
    let doc = document (last_drawn pile) pile.parent pile.pages in
    let few = s.few in
    let low = s.low in
    let place : 1 + length pile.done ≡ length pile.done + 1 = omega arith in
    let stands : ((doc.parent == 1 + length pile.done) || (doc.parent == last_parent 1 pile.done)) ≡ true = ap (λ k. (doc.parent == k) || (doc.parent == last_parent 1 pile.done)) place ∙ s.parent in
    record {
      families = stands_last 1 1 pile.done doc s.families stands;
      fit = list_all-append (batch_doc_fits 0) pile.done (doc ∷ [])
          ∙ and_from _ _ s.fit (and_from (batch_doc_fits 0 doc) true (doc_fits (last_drawn pile) pile.parent pile.pages (omega arith) s.some s.pages_fit) refl);
      written = list_all-append batch_doc_written pile.done (doc ∷ [])
          ∙ and_from _ _ s.written (and_from (batch_doc_written doc) true (doc_written (last_drawn pile) pile.parent pile.pages (omega arith) (omega arith) s.pages_written) refl);
      few = omega (arith, length-append pile.done (doc ∷ []));
      count = pages-append pile.done (doc ∷ []) ∙ omega (arith, s.count);
    }

first_sound : (seed : ℕ) → IsSound 0 (first_page seed)
first_sound seed = record {
  families = refl;
  parent = refl;
  low = omega arith;
  fit = refl;
  written = refl;
  some = omega arith;
  pages_fit = and_from _ true (page_fits seed) refl;
  pages_written = and_from _ true (page_written seed) refl;
  few = omega arith;
  count = refl;
}

-- a new document is of the family before it, or begins one
parent_sound : (n : ℕ) (pile : Pile) (joins : Bool) → IsSound n pile
    → let parent = cond joins pile.parent (last_drawn pile + 1) in
    (((parent == length (documents pile) + 1) || (parent == last_parent 1 (documents pile))) ≡ true) × (parent ≤ length (documents pile) + 1)
parent_sound n pile true s =
    let doc = document (last_drawn pile) pile.parent pile.pages in
    let low = s.low in (
      or_right (pile.parent == length (documents pile) + 1) (pile.parent == last_parent 1 (documents pile)) (eq-eqb _ _ (sym (last_of_more 1 pile.done doc))),
      omega (arith, length-append pile.done (doc ∷ [])),
    )
parent_sound n pile false s =
    let doc = document (last_drawn pile) pile.parent pile.pages in (
      or_left (last_drawn pile + 1 == length (documents pile) + 1) (last_drawn pile + 1 == last_parent 1 (documents pile)) (eq-eqb _ _ (omega (arith, length-append pile.done (doc ∷ [])))),
      omega (arith, length-append pile.done (doc ∷ [])),
    )

begun_sound : (n : ℕ) (pile : Pile) (x : ℕ) → n < 2000 → IsSound n pile → IsSound (suc n) (begin_document pile (next_parent pile x) x)
begun_sound n pile x small s =
    let all = documents_sound n pile small s in
    let parent = parent_sound n pile (drawn x 4 == 0) s in
    let few = all.few in
    let count = all.count in
    record {
      families = all.families;
      parent = parent.0;
      low = parent.1;
      fit = all.fit;
      written = all.written;
      some = omega arith;
      pages_fit = and_from _ true (page_fits x) refl;
      pages_written = and_from _ true (page_written x) refl;
      few = omega arith;
      count = omega arith;
    }

gone_on_sound : (n : ℕ) (pile : Pile) (x : ℕ) → IsSound n pile → IsSound (suc n) (go_on pile x)
gone_on_sound n pile x s =
    let some = s.some in
    let few = s.few in
    let count = s.count in
    record {
      families = s.families;
      parent = s.parent;
      low = s.low;
      fit = s.fit;
      written = s.written;
      some = omega (arith, length-append pile.pages (page_from x ∷ []));
      pages_fit = list_all-append batch_page_fits pile.pages (page_from x ∷ []) ∙ and_from _ _ s.pages_fit (and_from _ true (page_fits x) refl);
      pages_written = list_all-append batch_page_written pile.pages (page_from x ∷ []) ∙ and_from _ _ s.pages_written (and_from _ true (page_written x) refl);
      few = omega arith;
      count = omega (arith, length-append pile.pages (page_from x ∷ []));
    }

either_sound : (n : ℕ) (pile : Pile) (x : ℕ) (begins : Bool) → n < 2000 → IsSound n pile
    → IsSound (suc n) (cond begins (begin_document pile (next_parent pile (next x)) (next x)) (go_on pile x))
either_sound n pile x true small s = begun_sound n pile (next x) small s
either_sound n pile x false small s = gone_on_sound n pile x s

pub pages_sound : (seed n : ℕ) → n < 2000 → IsSound n (pages_drawn seed n)
pages_sound seed zero small = first_sound seed
pages_sound seed (suc n) small =
    let pile = pages_drawn seed n in
    either_sound n pile (next pile.state) (drawn (next pile.state) 3 == 0) (omega arith) (pages_sound seed n (omega arith))

-- the documents before the last one are few
pub few_done : (pile : Pile) (seed n : ℕ) → n < 2000 → pile ≡ pages_drawn seed n → length pile.done < 2000
few_done pile seed n small is =
    let few = (pages_sound seed n small).few in
    omega (arith, ap (λ (p : Pile). length p.done) is)
