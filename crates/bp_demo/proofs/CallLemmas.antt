-- The calls of documents, one document after another.
use Rattle.std.proofs.Common.{◌≡◌, ℕ, ◌+◌, ◌<◌, ◌≤◌, List, [], ◌∷◌, ◌++◌, length, slice_index_or, drop, refl, sym, ap, ◌∙◌, append_assoc, arith}
use Rattle.std.proofs.lemmas.List.{append-nil, drop_all, drop_more}
use Rattle.bp_core.specs.declared.rectangle.Rect.{Rect}
use Rattle.bp_core.specs.declared.review.Treatment.{Treatment}
use Rattle.bp_core.specs.declared.review.Treatment.TheVariants.{Produce}
use Rattle.bp_text.specs.declared.words.Word.{Word}
use Rattle.bp_matter.specs.declared.batches.BatchDoc.{BatchDoc}
use Rattle.bp_matter.specs.declared.batches.BatchPage.{BatchPage}
use Rattle.bp_demo.specs.Calls.{calls_from, doc_calls, first_rect, first_word, marks_of, no_rect}
use Rattle.bp_demo.specs.Draws.{next}
use Rattle.bp_demo.specs.declared.calls.KeyedCall.{KeyedCall}

-- one of a list stands before those behind it
pub next_one : {T : Type 0} → (i : ℕ) (all : List T) (one : T) → i < length all → one ≡ slice_index_or all i one → drop i all ≡ one ∷ drop (i + 1) all
next_one i all one inside is = drop_more all i one inside ∙ ap (λ x. x ∷ drop (i + 1) all) (sym is)

-- a document has its calls, and the others follow
pub calls_more : (whole so_far more : List KeyedCall) (x x' n i : ℕ) (docs : List BatchDoc) (doc : BatchDoc) → i < length docs → doc ≡ slice_index_or docs i doc
    → more ≡ so_far ++ doc_calls x n doc → x' ≡ next (next x) → so_far ++ calls_from x n (drop i docs) ≡ whole → more ++ calls_from x' (n + 1) (drop (i + 1) docs) ≡ whole
calls_more whole so_far more x x' n i docs doc inside is longer on before =
    ap (λ cs. cs ++ calls_from x' (n + 1) (drop (i + 1) docs)) longer
    ∙ ap (λ y. (so_far ++ doc_calls x n doc) ++ calls_from y (n + 1) (drop (i + 1) docs)) on
    ∙ append_assoc so_far (doc_calls x n doc) (calls_from (next (next x)) (n + 1) (drop (i + 1) docs))
    ∙ ap (λ ds. so_far ++ calls_from x n ds) (sym (next_one i docs doc inside is))
    ∙ before

-- no document is left
pub calls_whole : (whole so_far : List KeyedCall) (x n i : ℕ) (docs : List BatchDoc) → length docs ≤ i → so_far ++ calls_from x n (drop i docs) ≡ whole → so_far ≡ whole
calls_whole whole so_far x n i docs past before =
    sym (append-nil so_far) ∙ ap (λ ds. so_far ++ calls_from x n ds) (sym (drop_all i docs past)) ∙ before

-- the call of a document, and what follows it
pub doc_more : (old pushed more marks : List KeyedCall) (one : KeyedCall) → pushed ≡ old ++ one ∷ [] → more ≡ pushed ++ marks → more ≡ old ++ one ∷ marks
doc_more old pushed more marks one first then = then ∙ ap (λ cs. cs ++ marks) first ∙ append_assoc old (one ∷ []) marks

pub first_page_word : (pages : List BatchPage) (page : BatchPage) → 0 < length pages → page ≡ slice_index_or pages 0 page → first_rect page.words ≡ first_word pages
first_page_word [] page some is = absurd (omega arith)
first_page_word (p ∷ ps) page some is = ap (λ (q : BatchPage). first_rect q.words) is

pub first_word_rect : (words : List Word) (word : Word) → 0 < length words → word ≡ slice_index_or words 0 word → word.rect ≡ first_rect words
first_word_rect [] word some is = absurd (omega arith)
first_word_rect (w ∷ ws) word some is = ap (λ (v : Word). v.rect) is

pub no_pages : (pages : List BatchPage) → length pages ≡ 0 → no_rect ≡ first_word pages
no_pages [] none = refl
no_pages (p ∷ ps) none = absurd (omega arith)

pub no_words : (words : List Word) → length words ≡ 0 → no_rect ≡ first_rect words
no_words [] none = refl
no_words (w ∷ ws) none = absurd (omega arith)

-- nothing follows the call of a document that is produced whole
pub no_more : (old : List KeyedCall) (n : ℕ) (treatment : Treatment) (rect : Rect) → treatment ≡ Produce → old ≡ old ++ marks_of n treatment rect
no_more old n treatment rect is = sym (append-nil old) ∙ ap (λ (t : Treatment). old ++ marks_of n t rect) (sym is)
