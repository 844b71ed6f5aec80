-- The documents and families that drawn pages become.
use Rattle.std.specs.Prelude.{ℕ, zero, suc, ◌+◌, ◌==◌, List, [], ◌∷◌, ◌++◌, length, if◌then◌else◌}
use Rattle.std.specs.Fmt.{decimal}
use Rattle.bp_matter.specs.declared.batches.BatchDoc.{BatchDoc}
use Rattle.bp_matter.specs.declared.batches.BatchPage.{BatchPage}
use Rattle.bp_demo.specs.Draws.{drawn, next}
use Rattle.bp_demo.specs.Pages.{behind_page, page_image, words_drawn}

-- the page that is drawn from this state on, and its words
abbrev pub page_from : ℕ → BatchPage
page_from x = record { page = page_image (words_drawn x); words = words_drawn x }

-- a document of this number, parent and pages; its number is its id, and it has no fields
abbrev pub document : ℕ → ℕ → List BatchPage → BatchDoc
document n parent pages =
    record { id = decimal n; parent = parent; values = []; pages = pages }

-- what stands behind some pages: the documents before the last one, the last one's parent and pages
-- so far, and the state
pub record Pile : Type 0 where
  pub done : List BatchDoc
  pub parent : ℕ
  pub pages : List BatchPage
  pub state : ℕ

-- the number of the last document
abbrev pub last_drawn : Pile → ℕ
last_drawn pile = length pile.done + 1

-- all documents
abbrev pub documents : Pile → List BatchDoc
documents pile = pile.done ++ document (last_drawn pile) pile.parent pile.pages ∷ []

-- page 1 begins document 1, without a draw
abbrev pub first_page : ℕ → Pile
first_page seed =
    record { done = []; parent = 1; pages = page_from seed ∷ []; state = behind_page seed }

-- a page that begins a document of this parent, drawn from this state on
abbrev pub begin_document : Pile → ℕ → ℕ → Pile
begin_document pile parent x =
    record {
      done = documents pile;
      parent = parent;
      pages = page_from x ∷ [];
      state = behind_page x;
    }

-- a page of the last document, drawn from this state on
abbrev pub go_on : Pile → ℕ → Pile
go_on pile x =
    record pile { pages = pile.pages ++ page_from x ∷ []; state = behind_page x }

-- the parent of a new document: it joins the family before it where 0 of 4 is drawn
abbrev pub next_parent : Pile → ℕ → ℕ
next_parent pile x = if drawn x 4 == 0 then pile.parent else last_drawn pile + 1

-- another page begins a document where 0 of 3 is drawn
abbrev pub next_page : Pile → Pile
next_page pile =
    let begins = next pile.state in let joins = next begins in
    if drawn begins 3 == 0 then begin_document pile (next_parent pile joins) joins
    else go_on pile begins

-- what stands behind the first page and so many more, of this seed
abbrev pub pages_drawn : ℕ → ℕ → Pile
pages_drawn seed zero = first_page seed
pages_drawn seed (suc n) = next_page (pages_drawn seed n)
