-- Looking up in the outline of a matter, and the outline of a matter that carries another's lists.
use Rattle.std.proofs.Common.{◌≡◌, ℕ, ◌-◌, Bool, true, false, ◌==◌, List, [], ◌∷◌, map, slice_index_or, Option, Some, refl, sym, ap, ap₂, ◌∙◌, if◌then◌else◌}
use Rattle.bp_core.specs.Sorted.{find_key, two_keys}
use Rattle.bp_matter.specs.LookUps.{doc_with, of_row, page_with}
use Rattle.bp_matter.specs.Matter.{Matter, doc_key, page_key}
use Rattle.bp_matter.specs.declared.rows.BatchRow.{BatchRow}
use Rattle.bp_matter.specs.declared.rows.DocRow.{DocRow}
use Rattle.bp_matter.specs.declared.rows.PageRow.{PageRow}
use Rattle.bp_matter.specs.declared.rows.PageWords.{PageWords}
use Rattle.bp_matter.specs.declared.rows.Request.{Request}
use Rattle.bp_freeze.specs.Alike.{DecidedAlike}
use Rattle.bp_freeze.specs.Freezing.{freeze_of}
use Rattle.bp_freeze.specs.Seeing.{decisions_of}
use Rattle.bp_freeze.proofs.AlikeLemmas.{freeze-same}
use Rattle.bp_receiver.specs.Outlines.{batch_outline, doc_outline, outline_of, page_outline, words_outline}

-- ---- lists

twice : {A : Type 0} (f : A → A) (same : (x : A) → f (f x) ≡ f x) (xs : List A)
    → map f (map f xs) ≡ map f xs
twice f same [] = refl
twice f same (x ∷ xs) = ap₂ (λ y ys. y ∷ ys) (same x) (twice f same xs)

map-through : {A B : Type 0} (g : A → B) (f : A → A) (same : (x : A) → g (f x) ≡ g x) (xs : List A)
    → map g (map f xs) ≡ map g xs
map-through g f same [] = refl
map-through g f same (x ∷ xs) = ap₂ (λ y ys. y ∷ ys) (same x) (map-through g f same xs)

cond-map : {A : Type 0} (f : A → A) (b : Bool) (x : A) (more : Option A)
    → (if b then Some (f x) else of_row f more) ≡ of_row f (if b then Some x else more)
cond-map f true x more = refl
cond-map f false x more = refl

-- what is found among the outlines is the outline of what is found
found-outline : {A : Type 0} (key : A → ℕ) (f : A → A) (same : (x : A) → key (f x) ≡ key x) (k : ℕ)
    (xs : List A)
    → find_key key k (map f xs) ≡ of_row f (find_key key k xs)
found-outline {A} key f same k [] = refl
found-outline {A} key f same k (x ∷ xs) =
    ap₂ (λ (b : Bool) (more : Option A). if b then Some (f x) else more)
    (ap (λ n. n == k) (same x)) (found-outline key f same k xs)
    ∙ cond-map f (key x == k) x (find_key key k xs)

pub doc-found : (doc : ℕ) (m : Matter)
    → doc_with doc (outline_of m) ≡ of_row doc_outline (doc_with doc m)
doc-found doc m = found-outline doc_key doc_outline (λ x. refl) doc m.docs

pub page-found : (doc page : ℕ) (m : Matter)
    → page_with doc page (outline_of m) ≡ of_row page_outline (page_with doc page m)
page-found doc page m = found-outline page_key page_outline (λ x. refl) (two_keys doc page) m.pages

-- ---- matters that differ in other lists

-- the documents, pages, words and batches of one matter put in the place of another's
abbrev with_lists : List DocRow → List PageRow → List PageWords → List BatchRow → Matter → Matter
with_lists docs pages words batches x =
    record x { docs = docs; pages = pages; words = words; batches = batches }

abbrev pub with_those_of : Matter → Matter → Matter
with_those_of m x = with_lists m.docs m.pages m.words m.batches x

-- the outline of a matter that has the outlines of these rows
pub relaid : (x m : Matter)
    → outline_of (with_those_of m x) ≡ outline_of (with_those_of (outline_of m) x)
relaid x m =
    let docs = map doc_outline m.docs in
    let pages = map page_outline m.pages in
    let words = map words_outline m.words in
    let batches = map batch_outline m.batches in
    let docs' = map doc_outline docs in
    let pages' = map page_outline pages in
    let words' = map words_outline words in
    ap (λ (l : List DocRow). with_lists l pages words batches x)
    (sym (twice doc_outline (λ r. refl) m.docs))
    ∙ ap (λ (l : List PageRow). with_lists docs' l words batches x)
    (sym (twice page_outline (λ r. refl) m.pages))
    ∙ ap (λ (l : List PageWords). with_lists docs' pages' l batches x)
    (sym (twice words_outline (λ r. refl) m.words))
    ∙ ap (λ (l : List BatchRow). with_lists docs' pages' words' l x)
    (sym (twice batch_outline (λ r. refl) m.batches))

-- ---- the freeze: a matter and its outline are decided alike

parents-outline : (m : Matter)
    → map (λ (row : DocRow). row.parent.0) m.docs
    ≡ map (λ (row : DocRow). row.parent.0) (map doc_outline m.docs)
parents-outline m =
    sym (map-through (λ (row : DocRow). row.parent.0) doc_outline (λ x. refl) m.docs)

counts-outline : (m : Matter)
    → map (λ (row : DocRow). row.pages) m.docs
    ≡ map (λ (row : DocRow). row.pages) (map doc_outline m.docs)
counts-outline m = sym (map-through (λ (row : DocRow). row.pages) doc_outline (λ x. refl) m.docs)

decided-outline : (q : Request) (m : Matter) → DecidedAlike q m (outline_of m)
decided-outline q m =
    let with_parents = λ (l : List ℕ). record (decisions_of m) { parents = l } in
    let count_in = λ (doc : ℕ) (l : List ℕ). if doc == 0 then 0 else slice_index_or l (doc - 1) 0 in
    record {
      decisions = ap with_parents (parents-outline m);
      counts = λ doc low high shown. ap (count_in doc) (counts-outline m);
    }

-- so a request is answered alike in both, refusals included
pub freeze-outline : (m : Matter) (q : Request) → freeze_of m q ≡ freeze_of (outline_of m) q
freeze-outline m q = freeze-same q m (outline_of m) (decided-outline q m)
