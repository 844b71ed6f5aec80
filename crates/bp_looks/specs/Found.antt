-- What one search finds: the hits of parts in order, while few parts were taken and few hits found.
use Rattle.std.specs.Prelude.{ℕ, ◌+◌, nat_lt, ◌&&◌, ◌==◌, if◌then◌else◌, List, [], ◌∷◌, ◌++◌, length}
use Rattle.bp_core.specs.declared.numbers.DocNo.{DocNo}
use Rattle.bp_matter.specs.Matter.{Matter}
use Rattle.bp_looks.specs.Hits.{hits_of_rows}
use Rattle.bp_looks.specs.Parts.{Part, PartRows, documents_of, parts_from}
use Rattle.bp_matter.specs.declared.looks.Found.{Found}
use Rattle.bp_looks.specs.declared.found.TheConstants.{ENOUGH_HITS, MAX_PARTS}
use Rattle.bp_matter.specs.declared.looks.Hit.{Hit}
use Rattle.bp_looks.specs.declared.hits.Spot.{Spot}

-- a number as that of a document
abbrev pub as_doc_no : ℕ → DocNo
as_doc_no n = record { 0 = n }

-- where the first row of a part stands: on its page, with field 0, or in field 1, with page 0
abbrev pub spot_of : ℕ → ℕ → Spot
spot_of doc page =
    record { doc = as_doc_no doc; page = page; field = (if page == 0 then 1 else 0) }

-- the hits of a part
abbrev pub hits_in : List (List ℕ) → Part → List Hit
hits_in terms part = hits_of_rows terms (spot_of part.doc part.page) part.rows

-- how far a search came: its hits, and the parts that it did not take
pub record Walk : Type 0 where
  pub hits : List Hit
  pub rest : List Part

-- parts are taken in order, while fewer than so many were taken and fewer than so many hits were
-- found in those before
abbrev pub walk_within : ℕ → ℕ → List (List ℕ) → List Hit → ℕ → List Part → Walk
walk_within most_parts enough terms hits taken [] = record { hits = hits; rest = [] }
walk_within most_parts enough terms hits taken (part ∷ more) =
    if nat_lt taken most_parts && nat_lt (length hits) enough
    then walk_within most_parts enough terms (hits ++ hits_in terms part) (taken + 1) more
    else record { hits = hits; rest = part ∷ more }

-- within the limits of a search
abbrev pub walk : List (List ℕ) → List Hit → ℕ → List Part → Walk
walk terms hits taken parts = walk_within MAX_PARTS ENOUGH_HITS terms hits taken parts

-- the document of the first part, or 0
abbrev pub next_doc_of : List Part → ℕ
next_doc_of [] = 0
next_doc_of (part ∷ more) = part.doc

-- its number in the document, or 0
abbrev pub next_page_of : List Part → ℕ
next_page_of [] = 0
next_page_of (part ∷ more) = part.page

-- what a search tells that came so far
abbrev pub told_so_far : Walk → Found
told_so_far walked =
    record {
      hits = walked.hits;
      next = next_doc_of walked.rest;
      next_page = next_page_of walked.rest;
    }

-- a search from a part of a document on
abbrev pub found_from : List (List PartRows) → List (List ℕ) → ℕ → ℕ → Found
found_from docs terms doc page = told_so_far (walk terms [] 0 (parts_from docs doc page))

-- in the documents of a matter
abbrev pub found_of : Matter → List (List ℕ) → ℕ → ℕ → Found
found_of m terms doc page = found_from (documents_of m) terms doc page
