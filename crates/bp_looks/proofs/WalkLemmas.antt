-- One step of a walk over parts.
use Rattle.std.proofs.Common.{◌≡◌, ◌≤◌, ◌<◌, ◌+◌, ℕ, Bool, true, false, inl, inr, List, [], ◌∷◌, ◌++◌, length, drop, refl, ap, ◌∙◌, arith}
use Rattle.std.specs.Prelude.{◌&&◌, ◌||◌, if◌then◌else◌, nat_le, nat_lt}
use Rattle.std.proofs.lemmas.Bool.{and_right, le-ltb, leb-false, leb-true, lt-ltb, or_cases, or_parts}
use Rattle.bp_matter.specs.declared.looks.Hit.{Hit}
use Rattle.bp_looks.specs.declared.found.TheConstants.{ENOUGH_HITS, MAX_PARTS}
use Rattle.bp_looks.specs.Found.{hits_in, told_so_far, walk}
use Rattle.bp_looks.specs.Parts.{Part, PartRows, parts_of, parts_in}

walk_on : (terms : List (List ℕ)) (hits : List Hit) (taken : ℕ) (part : Part) (more : List Part)
    → taken < MAX_PARTS
    → length hits < ENOUGH_HITS
    → walk terms hits taken (part ∷ more) ≡ walk terms (hits ++ hits_in terms part) (taken + 1) more
walk_on terms hits taken part more p h =
    ap (λ (b : Bool). if b && nat_lt (length hits) ENOUGH_HITS
    then walk terms (hits ++ hits_in terms part) (taken + 1) more
    else (record { hits = hits; rest = part ∷ more })) (lt-ltb taken MAX_PARTS p)
    ∙ ap (λ (b : Bool). if b
    then walk terms (hits ++ hits_in terms part) (taken + 1) more
    else (record { hits = hits; rest = part ∷ more })) (lt-ltb (length hits) ENOUGH_HITS h)

-- a search that isn't full takes the next part
pub walk-take : (terms : List (List ℕ)) (hits : List Hit) (taken : ℕ) (part : Part) (more : List Part)
    → nat_le MAX_PARTS taken || nat_le ENOUGH_HITS (length hits) ≡ false
    → walk terms hits taken (part ∷ more) ≡ walk terms (hits ++ hits_in terms part) (taken + 1) more
walk-take terms hits taken part more room =
    let both = or_parts (nat_le MAX_PARTS taken) (nat_le ENOUGH_HITS (length hits)) room in
    walk_on terms hits taken part more (leb-false MAX_PARTS taken both.0)
    (leb-false ENOUGH_HITS (length hits) both.1)

walk-parts : (terms : List (List ℕ)) (hits : List Hit) (taken : ℕ) (part : Part) (more : List Part)
    → MAX_PARTS ≤ taken
    → walk terms hits taken (part ∷ more) ≡ record { hits = hits; rest = part ∷ more }
walk-parts terms hits taken part more p =
    ap (λ (b : Bool). if b && nat_lt (length hits) ENOUGH_HITS
    then walk terms (hits ++ hits_in terms part) (taken + 1) more
    else (record { hits = hits; rest = part ∷ more })) (le-ltb taken MAX_PARTS p)

walk-enough : (terms : List (List ℕ)) (hits : List Hit) (taken : ℕ) (part : Part) (more : List Part)
    → ENOUGH_HITS ≤ length hits
    → walk terms hits taken (part ∷ more) ≡ record { hits = hits; rest = part ∷ more }
walk-enough terms hits taken part more h =
    let test : nat_lt taken MAX_PARTS && nat_lt (length hits) ENOUGH_HITS ≡ false =
    and_right (nat_lt taken MAX_PARTS) (nat_lt (length hits) ENOUGH_HITS)
    (le-ltb (length hits) ENOUGH_HITS h) in
    ap (λ (b : Bool). if b
    then walk terms (hits ++ hits_in terms part) (taken + 1) more
    else (record { hits = hits; rest = part ∷ more })) test

-- a search that is full takes none of these parts
pub walk-full : (terms : List (List ℕ)) (hits : List Hit) (taken : ℕ) (parts : List Part)
    → nat_le MAX_PARTS taken || nat_le ENOUGH_HITS (length hits) ≡ true
    → walk terms hits taken parts ≡ record { hits = hits; rest = parts }
walk-full terms hits taken [] full = refl
walk-full terms hits taken (part ∷ more) full =
    elim (or_cases (nat_le MAX_PARTS taken) (nat_le ENOUGH_HITS (length hits)) full) [
      | inl many ↦ walk-parts terms hits taken part more (leb-true MAX_PARTS taken many)
      | inr enough ↦
          walk-enough terms hits taken part more (leb-true ENOUGH_HITS (length hits) enough)
    ]

-- the parts of a document from the one at `page` on
pub parts-step : (doc page : ℕ) (parts : List PartRows) (rows : PartRows)
    → drop page parts ≡ rows ∷ drop (page + 1) parts
    → parts_of doc page (drop page parts)
    ≡ record { doc = doc; page = page; rows = rows } ∷ parts_of doc (page + 1) (drop (page + 1) parts)
parts-step doc page parts rows e = ap (λ (l : List PartRows). parts_of doc page l) e

-- the parts of the documents from the one after `i` others on
pub documents-step : (doc page i : ℕ) (docs : List (List PartRows)) (parts : List PartRows)
    → drop i docs ≡ parts ∷ drop (i + 1) docs
    → parts_in doc page (drop i docs)
    ≡ parts_of doc page (drop page parts) ++ parts_in (doc + 1) 0 (drop (i + 1) docs)
documents-step doc page i docs parts e =
    ap (λ (l : List (List PartRows)). parts_in doc page l) e

-- a search that stops says at which part
pub told-stopped : (hits : List Hit) (doc page : ℕ) (parts : List PartRows) (more : List Part)
    → 0 < length parts
    → told_so_far (record { hits = hits; rest = parts_of doc page parts ++ more })
    ≡ record { hits = hits; next = doc; next_page = page }
told-stopped hits doc page [] more h = absurd (omega arith)
told-stopped hits doc page (rows ∷ parts) more h = refl
