-- Worked examples of searches. Where one stops is run at small limits, by an empty word, which `*`
-- matches: the limits that a search has would take gigabytes here.
use Rattle.std.proofs.Common.{◌≡◌, ℕ, true, false, List, [], ◌∷◌, ◌++◌, Ok, Err, length, refl}
use Rattle.std.specs.Prelude.{codes, replicate}
use Rattle.bp_matter.specs.Matter.{Matter}
use Rattle.bp_matter.specs.declared.rows.DocRow.{DocRow}
use Rattle.bp_matter.specs.declared.rows.PageWords.{PageWords}
use Rattle.bp_text.specs.declared.words.Word.{Word}
use Rattle.ucd_case.proofs.Computing.{ucd_case}
use Rattle.ucd_category.proofs.Computing.{ucd_category}
use Rattle.bp_looks.specs.Covered.{is_covered}
use Rattle.bp_looks.specs.Finding.{find}
use Rattle.bp_core.specs.Rules.{bare_rule}
use Rattle.bp_core.specs.declared.rules.RuleKind.TheVariants.{TermRefused}
use Rattle.bp_looks.specs.Found.{Walk, as_doc_no, next_doc_of, next_page_of, walk_within}
use Rattle.bp_looks.specs.Parts.{PartRows, parts_from}
use Rattle.bp_looks.specs.Refusing.{no_document, no_page}
use Rattle.bp_looks.specs.Terms.{are_terms, is_term}
use Rattle.bp_looks.specs.declared.found.TheConstants.{ENOUGH_HITS, MAX_PARTS}
use Rattle.bp_looks.specs.declared.terms.TheConstants.{MAX_TERM, MAX_TERMS}

most_parts : MAX_PARTS ≡ 1000
most_parts = refl

enough_hits : ENOUGH_HITS ≡ 1000
enough_hits = refl

most_terms : MAX_TERMS ≡ 8
most_terms = refl

longest_term : MAX_TERM ≡ 200
longest_term = refl

-- no term, eight and nine of them
no_term : are_terms [] ≡ false
no_term = refl

eight_terms : are_terms (replicate 8 (codes "a")) ≡ true
unfolding lib.Utf8.encode
eight_terms = refl

nine_terms : are_terms (replicate 9 (codes "a")) ≡ false
nine_terms = refl

-- the empty text, 200 and 201 characters, a hundred of two bytes and one more, and DEL
empty_term : is_term [] ≡ false
empty_term = refl

longest : is_term (replicate 200 97) ≡ true
unfolding lib.Utf8.encode
longest = refl

too_long : is_term (replicate 201 97) ≡ false
unfolding lib.Utf8.encode
too_long = refl

too_wide : is_term (97 ∷ replicate 100 0xE9) ≡ false
unfolding lib.Utf8.encode
too_wide = refl

control : is_term (codes "a" ++ 127 ∷ []) ≡ false
unfolding lib.Utf8.encode
control = refl

abbrev word_at : ℕ → List ℕ → Word
word_at left text =
    record { line = 1; rect = record { left = left; top = 0; width = 8; height = 8 }; text = text }

-- a matter of two documents of one page; the first has the values `For Counsel` and none
abbrev doc_row : ℕ → List (List ℕ) → DocRow
doc_row n values =
    record { doc = as_doc_no n; parent = as_doc_no n; pages = 1; batch = 1; id = codes "A"; values = values }

abbrev words_row : ℕ → List Word → PageWords
words_row n words = record { doc = as_doc_no n; page = record { 0 = 1 }; words = words }

abbrev matter : Matter
matter = record {
  staff = [];
  fields = [];
  docs = doc_row 1 (codes "For  Counsel" ∷ [] ∷ []) ∷ doc_row 2 [] ∷ [];
  pages = [];
  calls = [];
  boxes = [];
  held = [];
  entries = [];
  prefixes = [];
  productions = [];
  batches = [];
  words = words_row 1 (word_at 0 (codes "Ask") ∷ word_at 10 (codes "Counsel,") ∷ [])
      ∷ words_row 2 (word_at 0 (codes "counsel") ∷ []) ∷ [];
}

abbrev counsel : List (List ℕ)
counsel = codes "counsel" ∷ []

-- a field's second piece, a page's second word, and the first word of the next document
in_matter : find matter counsel 1 0 ≡ Ok (record {
  hits = record { doc = as_doc_no 1; page = 0; field = 1; place = 2; count = 1 }
      ∷ record { doc = as_doc_no 1; page = 1; field = 0; place = 2; count = 1 }
      ∷ record { doc = as_doc_no 2; page = 1; field = 0; place = 1; count = 1 } ∷ [];
  next = 0;
  next_page = 0;
})
unfolding ucd_case ucd_category lib.Utf8.encode
in_matter = refl

-- from the page of the last document on
from_there : find matter counsel 2 1 ≡ Ok (record {
  hits = record { doc = as_doc_no 2; page = 1; field = 0; place = 1; count = 1 } ∷ [];
  next = 0;
  next_page = 0;
})
unfolding ucd_case ucd_category lib.Utf8.encode
from_there = refl

-- no term; from document 0, and beyond the last; from a page beyond the last. The first reason counts
none_asked : find matter [] 0 0 ≡ Err (bare_rule TermRefused)
none_asked = refl

from_zero : find matter counsel 0 0 ≡ Err (no_document 0)
unfolding lib.Utf8.encode
from_zero = refl

past_documents : find matter counsel 3 9 ≡ Err (no_document 3)
unfolding lib.Utf8.encode
past_documents = refl

past_pages : find matter counsel 2 2 ≡ Err (no_page 2)
unfolding lib.Utf8.encode
past_pages = refl

abbrev any : List (List ℕ)
any = (42 ∷ []) ∷ []

-- a page of one word
abbrev page : PartRows
page = ([] ∷ []) ∷ []

-- 12 documents of no values and one page, of which 10 parts are taken: 5 documents
abbrev many : Walk
many = walk_within 10 10 any [] 0 (parts_from (replicate 12 ([] ∷ page ∷ [])) 1 0)

many_hits : length many.hits ≡ 5
many_hits = refl

many_next : next_doc_of many.rest ≡ 6
many_next = refl

many_next_page : next_page_of many.rest ≡ 0
many_next_page = refl

-- a document of 15 pages
abbrev long : Walk
long = walk_within 10 10 any [] 0 (parts_from (([] ∷ replicate 15 page) ∷ []) 1 0)

long_hits : length long.hits ≡ 9
long_hits = refl

long_next : next_doc_of long.rest ≡ 1
long_next = refl

long_next_page : next_page_of long.rest ≡ 10
long_next_page = refl

-- the last part is taken whole: a page of four words passes the limit of two hits
abbrev passed : Walk
passed =
    walk_within 10 2 any [] 0
    (parts_from ((page ∷ (([] ∷ [] ∷ [] ∷ [] ∷ []) ∷ []) ∷ page ∷ []) ∷ []) 1 0)

passed_hits : length passed.hits ≡ 5
passed_hits = refl

passed_next_page : next_page_of passed.rest ≡ 2
passed_next_page = refl

-- a word that shares no pixel with the box is bare
box_covers : is_covered (record { left = 8; top = 0; width = 3; height = 1 } ∷ [])
    (word_at 0 [] ∷ word_at 10 [] ∷ []) 1 ≡ true
box_covers = refl

box_leaves : is_covered (record { left = 8; top = 0; width = 3; height = 1 } ∷ [])
    (word_at 0 [] ∷ word_at 10 [] ∷ []) 0 ≡ false
box_leaves = refl
