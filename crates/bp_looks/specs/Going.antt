-- Searches that go on, each from where the one before stopped.
use Rattle.std.specs.Prelude.{ℕ, zero, suc, ◌==◌, if◌then◌else◌, List, [], ◌∷◌, ◌++◌}
use Rattle.bp_looks.specs.Found.{found_from, hits_in}
use Rattle.bp_looks.specs.Parts.{Part, PartRows}
use Rattle.bp_matter.specs.declared.looks.Hit.{Hit}

-- the hits of each of these parts, in order
abbrev pub all_hits : List (List ℕ) → List Part → List Hit
all_hits terms [] = []
all_hits terms (part ∷ more) = hits_in terms part ++ all_hits terms more

-- the hits of at most so many searches in these documents, the first from a part on and each other one
-- from where the one before stopped, until one names no further part
abbrev pub going_on : ℕ → List (List PartRows) → List (List ℕ) → ℕ → ℕ → List Hit
going_on zero docs terms doc page = []
going_on (suc n) docs terms doc page =
    let found = found_from docs terms doc page in
    found.hits
    ++ (if found.next == 0 then [] else going_on n docs terms found.next found.next_page)
