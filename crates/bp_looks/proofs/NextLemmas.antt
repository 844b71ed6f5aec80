-- Where a search stops another can begin: its part is there.
use Rattle.std.proofs.Common.{◌≡◌, ◌≤◌, ◌<◌, ◌+◌, ◌-◌, ℕ, inl, inr, Bool, true, false, Option, Some, None, Ok, Err, List, [], ◌∷◌, ◌++◌, length, drop, get_or, refl, sym, ap, subst, ◌∙◌, arith}
use Rattle.std.specs.Prelude.{if◌then◌else◌, nat_lt, not}
use Rattle.std.proofs.lemmas.Bool.{cases_lt, le-ltb}
use Rattle.std.proofs.lemmas.List.{get_or-drop, get_or_past, length-drop}
use Rattle.std.proofs.lemmas.List.FromFn.{get_or-map-range_with_len, length-map-range_with_len}
use Rattle.bp_core.specs.Rules.{bare_rule}
use Rattle.bp_core.specs.declared.rules.RuleKind.TheVariants.{TermRefused}
use Rattle.bp_matter.specs.LookUps.{doc_with, of_row}
use Rattle.bp_matter.specs.Matter.{Matter}
use Rattle.bp_matter.specs.declared.rows.DocRow.{DocRow}
use Rattle.bp_looks.specs.Finding.{find, find_from, page_count_of}
use Rattle.bp_looks.specs.Found.{found_of, next_doc_of, next_page_of, walk}
use Rattle.bp_looks.specs.Parts.{Part, PartRows, document_rows, documents_of, parts_from, parts_in, parts_of, rows_of_parts}
use Rattle.bp_looks.specs.Refusing.{no_page}
use Rattle.bp_looks.specs.Terms.{are_terms}
use Rattle.bp_looks.proofs.LawLemmas.{IsPlaced, placed-start, placed-walk}
use Rattle.bp_looks.proofs.PartLemmas.{length-rows}

-- the first part is of the first document, or of one that comes after it
from_by : (docs : List (List PartRows)) (doc page : ℕ) (part : Part) (rest : List Part) (left : List PartRows)
    → parts_of doc page left ++ parts_in (doc + 1) 0 docs ≡ part ∷ rest
    → (parts_in (doc + 1) 0 docs ≡ part ∷ rest → doc + 1 ≤ part.doc)
    → doc ≤ part.doc
from_by docs doc page part rest [] e go = let later = go e in omega (arith, later)
from_by docs doc page part rest (rows ∷ left) e go =
    let same : doc ≡ part.doc = cc in omega (arith, same)

-- no part comes from a document before the first
first_from : (docs : List (List PartRows)) (doc page : ℕ) (part : Part) (rest : List Part)
    → parts_in doc page docs ≡ part ∷ rest
    → doc ≤ part.doc
first_from [] doc page part rest e = absurd (cc)
first_from (parts ∷ docs) doc page part rest e =
    from_by docs doc page part rest (drop page parts) e (λ f. first_from docs (doc + 1) 0 part rest f)

-- where rows are left of the first document, it has the page
page_by : (parts : List PartRows) (docs : List (List PartRows)) (doc page : ℕ) (part : Part)
    (rest : List Part) (left : List PartRows)
    → drop page parts ≡ left
    → parts_of doc page left ++ parts_in (doc + 1) 0 docs ≡ part ∷ rest
    → part.doc ≡ doc
    → page < length parts
page_by parts docs doc page part rest [] at e here =
    let later = first_from docs (doc + 1) 0 part rest e in absurd (omega (arith, later, here))
page_by parts docs doc page part rest (rows ∷ left) at e here =
    let many = ap (λ (l : List PartRows). length l) at in
    omega (arith, many, length-drop page parts)

-- where the first part is of the first document, that document has the page
first_page : (docs : List (List PartRows)) (doc page : ℕ) (part : Part) (rest : List Part)
    → parts_in doc page docs ≡ part ∷ rest
    → part.doc ≡ doc
    → page < length (get_or docs 0 [])
first_page [] doc page part rest e here = absurd (cc)
first_page (parts ∷ docs) doc page part rest e here =
    page_by parts docs doc page part rest (drop page parts) refl e here

-- a document that has rows stands in the matter
rows_there : (m : Matter) (before page : ℕ)
    → page < length (get_or (documents_of m) before [])
    → page < length (document_rows m (before + 1))
rows_there m before page lt =
    elim (cases_lt before (length m.docs)) [
      | inl here ↦ subst (λ (rows : List PartRows). page < length rows)
          (get_or-map-range_with_len (document_rows m) 1 (length m.docs) before (before + 1) [] here (omega arith)) lt
      | inr past ↦
          let many = length-map-range_with_len (document_rows m) 1 (length m.docs) in
          let none = ap (λ (rows : List PartRows). length rows) (get_or_past (documents_of m) before [] (omega (arith, many, past))) in
          absurd (omega (arith, none, lt))
    ]

found_there : (m : Matter) (terms : List (List ℕ)) (doc page : ℕ) (found : Option DocRow)
    → doc_with doc m ≡ found
    → page < length (rows_of_parts m doc found)
    → find_from m terms doc page (page_count_of m doc) ≡ Ok (found_of m terms doc page)
found_there m terms doc page None is lt = absurd (omega arith)
found_there m terms doc page (Some row) is lt =
    let pages : page_count_of m doc ≡ Some row.pages = ap (λ o. of_row (λ row. row.pages) o) is in
    let test : nat_lt row.pages page ≡ false =
    le-ltb row.pages page (omega (arith, length-rows m row doc)) in
    ap (λ (o : Option ℕ). find_from m terms doc page o) pages
    ∙ ap (λ (b : Bool). if b then Err (no_page page) else Ok (found_of m terms doc page)) test

asked_there : (m : Matter) (terms : List (List ℕ)) (from page : ℕ) (rest : List Part)
    → 1 ≤ from
    → 0 < next_doc_of rest
    → IsPlaced from (drop (from - 1) (documents_of m)) rest
    → next_page_of rest < length (document_rows m (next_doc_of rest))
asked_there m terms from page [] above some placed = absurd (omega arith)
asked_there m terms from page (part ∷ rest) above some (inl none) = absurd (cc)
asked_there m terms from page (part ∷ rest) above some (inr w) =
    let docs = drop (from - 1) (documents_of m) in
    let here = first_page (drop w.0 docs) (from + w.0) part.page part rest (sym w.2) w.1 in
    let at : get_or (drop w.0 docs) 0 [] ≡ get_or (documents_of m) (part.doc - 1) [] =
    get_or-drop w.0 docs 0 []
    ∙ (get_or-drop (from - 1) (documents_of m) (w.0 + 0) []
    ∙ ap (λ (n : ℕ). get_or (documents_of m) n []) (omega (arith, w.1))) in
    let there = rows_there m (part.doc - 1) part.page
    (subst (λ (rows : List PartRows). part.page < length rows) at here) in
    let n : part.doc - 1 + 1 ≡ part.doc = omega (arith, some) in
    subst (λ (k : ℕ). part.page < length (document_rows m k)) n there

-- a search from where another stopped is not refused
pub next-found : (m : Matter) (terms : List (List ℕ)) (from page : ℕ)
    → are_terms terms ≡ true
    → 1 ≤ from
    → 0 < (found_of m terms from page).next
    → find m terms (found_of m terms from page).next (found_of m terms from page).next_page
    ≡ Ok (found_of m terms (found_of m terms from page).next (found_of m terms from page).next_page)
next-found m terms from page good above some =
    let docs = drop (from - 1) (documents_of m) in
    let parts = parts_from (documents_of m) from page in
    let rest = (walk terms [] 0 parts).rest in
    let placed : IsPlaced from docs rest =
    placed-walk docs from terms [] 0 parts (placed-start docs from page) in
    let lt = asked_there m terms from page rest above some placed in
    ap (λ (b : Bool). if not b then Err (bare_rule TermRefused)
    else find_from m terms (next_doc_of rest) (next_page_of rest) (page_count_of m (next_doc_of rest))) good
    ∙ found_there m terms (next_doc_of rest) (next_page_of rest) (doc_with (next_doc_of rest) m) refl lt
