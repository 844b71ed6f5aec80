-- The parts of a document that stands in a row, and what a valid matter says of their sizes.
use Rattle.std.proofs.Common.{◌≡◌, ◌≤◌, ◌<◌, ◌+◌, ◌^◌, ℕ, zero, suc, Bool, true, inl, inr, Option, Some, None, List, [], ◌∷◌, length, drop, get_or, refl, sym, ap, subst, ◌∙◌, arith, encode_utf8_all}
use Rattle.std.specs.Prelude.{◌&&◌, ◌==◌, nat_le, not}
use Rattle.std.specs.List.{find, list_all}
use Rattle.std.specs.Str.{all_scalars}
use Rattle.std.proofs.lemmas.Bool.{and_parts, cases_Bool, leb-true, ltb-true}
use Rattle.std.proofs.lemmas.List.Sums.{AllPass-from_list_all}
use Rattle.std.proofs.lemmas.Str.{length-le-encodes}
use Rattle.std.proofs.lemmas.List.{drop_more}
use Rattle.std.proofs.lemmas.List.FromFn.{get_or-map-range_with_len, length-map-range_with_len}
use Rattle.bp_matter.specs.LookUps.{doc_with, of_row, words_with}
use Rattle.bp_matter.specs.Matter.{Matter, doc_key}
use Rattle.bp_matter.specs.Valid.{IsValid}
use Rattle.bp_matter.specs.Written.{are_few, doc_written, is_short, is_word, words_written, word_written}
use Rattle.bp_matter.specs.declared.rows.DocRow.{DocRow}
use Rattle.bp_matter.specs.declared.rows.PageWords.{PageWords}
use Rattle.bp_matter.proofs.NumberedLemmas.{numbered-before}
use Rattle.bp_looks.specs.Finding.{page_count_of}
use Rattle.bp_looks.specs.Terms.{are_terms, is_term}
use Rattle.bp_looks.specs.declared.terms.TheConstants.{MAX_TERMS}
use Rattle.bp_looks.specs.Parts.{PartRows, document_rows, documents_of, page_rows, rows_of_parts}

-- a page of a document is a part of it
pub rows-page : (m : Matter) (row : DocRow) (doc page : ℕ)
    → 0 < page
    → page ≤ row.pages
    → get_or (rows_of_parts m doc (Some row)) page [] ≡ page_rows m doc page
rows-page m row doc zero above few = absurd (omega arith)
rows-page m row doc (suc k) above few =
    get_or-map-range_with_len (page_rows m doc) 1 row.pages k (suc k) [] (omega arith) (omega arith)

-- a part for each page, and one for the values
pub length-rows : (m : Matter) (row : DocRow) (doc : ℕ)
    → length (rows_of_parts m doc (Some row)) ≡ row.pages + 1
length-rows m row doc =
    let pages = length-map-range_with_len (page_rows m doc) 1 row.pages in omega (arith, pages)

-- the documents that are left begin with the next one
pub documents-more : (m : Matter) (before : ℕ)
    → before < length m.docs
    → drop before (documents_of m)
    ≡ document_rows m (before + 1) ∷ drop (before + 1) (documents_of m)
documents-more m before lt =
    let many = length-map-range_with_len (document_rows m) 1 (length m.docs) in
    drop_more (documents_of m) before [] (omega (arith, many))
    ∙ ap (λ (rows : List PartRows). rows ∷ drop (before + 1) (documents_of m))
    (get_or-map-range_with_len (document_rows m) 1 (length m.docs) before (before + 1) [] lt (omega arith))

-- what is found passes any test of all rows
found_passes : {T : Type 0} (p q : T → Bool) (rows : List T) (row : T)
    → find p rows ≡ Some row
    → list_all q rows ≡ true
    → q row ≡ true
found_passes p q [] row e all = absurd cc
found_passes p q (first ∷ rows) row e all =
    let parts = and_parts (q first) (list_all q rows) all in
    elim (cases_Bool (p first)) [
      | inl here ↦ (let same : Some first ≡ Some row = rw here at e in let is : first ≡ row = cc in subst (λ t. q t ≡ true) is parts.0)
      | inr there ↦ found_passes p q rows row (rw there at e) parts.1
    ]

-- a page has fewer than 2^32 words
pub words-few : (m : Matter) (doc page : ℕ) (row : PageWords)
    → IsValid m
    → words_with doc page m ≡ Some row
    → length row.words < 2 ^ 32
words-few m doc page row valid is =
    let written = found_passes _ words_written m.words row is valid.words.written in
    let rest = and_parts (is_word row.doc.0) (is_word row.page.0 && are_few word_written row.words) written in
    let few = and_parts (is_word row.page.0) (are_few word_written row.words) rest.1 in
    let many = and_parts (list_all word_written row.words) (is_word (length row.words)) few.1 in
    ltb-true (length row.words) (2 ^ 32) many.1

-- a document has few values, each with few characters
pub values-few : (m : Matter) (doc : ℕ) (row : DocRow)
    → IsValid m
    → doc_with doc m ≡ Some row
    → are_few is_short row.values ≡ true
values-few m doc row valid is =
    let written = found_passes _ doc_written m.docs row is valid.docs.written in
    let few = are_few is_short row.values in
    let named = is_short row.id && few in
    let numbered = is_word row.batch && named in
    let paged = is_word row.pages && numbered in
    let parent = and_parts (is_word row.doc.0) (is_word row.parent.0 && paged) written in
    let pages = and_parts (is_word row.parent.0) paged parent.1 in
    let batch = and_parts (is_word row.pages) numbered pages.1 in
    let id = and_parts (is_word row.batch) named batch.1 in
    (and_parts (is_short row.id) few id.1).1

-- a value of those has few characters
pub value-few : (values : List (List ℕ)) (i : ℕ) (value : List ℕ)
    → are_few is_short values ≡ true
    → i < length values
    → value ≡ get_or values i value
    → length value < 2 ^ 32
value-few values i value all lt is =
    let each = AllPass-from_list_all is_short values (and_parts (list_all is_short values) (is_word (length values)) all).0 in
    let short : is_short value ≡ true = subst (λ v. is_short v ≡ true) (sym is) (each i value lt) in
    let bytes = ltb-true (length (encode_utf8_all value)) (2 ^ 32)
    (and_parts (all_scalars value) (is_word (length (encode_utf8_all value))) short).1 in
    omega (arith, bytes, length-le-encodes value)

-- no document has the number 0
pub doc-first : (m : Matter) (doc pages : ℕ)
    → IsValid m
    → page_count_of m doc ≡ Some pages
    → 1 ≤ doc
doc-first m zero pages valid is =
    let none = numbered-before doc_key 0 m.docs valid.docs.numbered refl in
    let e : None ≡ Some pages =
    ap (λ (o : Option DocRow). of_row (λ row. row.pages) o) none ∙ is in
    absurd cc
doc-first m (suc doc) pages valid is = omega arith

-- the terms of a search are few
pub terms-few : (terms : List (List ℕ)) → are_terms terms ≡ true → length terms < 2 ^ 32
terms-few terms good =
    let some = not (length terms == 0) in
    let few = nat_le (length terms) MAX_TERMS in
    let both = and_parts (some && few) (list_all is_term terms) good in
    let eight = leb-true (length terms) MAX_TERMS (and_parts some few both.0).1 in
    omega (arith, eight)
