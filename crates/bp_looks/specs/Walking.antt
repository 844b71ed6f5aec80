-- What a walk over parts does, whatever parts may follow.
use Rattle.std.specs.Prelude.{ℕ, ◌≡◌, List, ◌++◌}
use Rattle.bp_looks.specs.Found.{walk}
use Rattle.bp_looks.specs.Parts.{Part}
use Rattle.bp_matter.specs.declared.looks.Hit.{Hit}

-- a search comes past these parts, to other hits and more parts taken
abbrev pub ComesPast : List (List ℕ) → List Hit → ℕ → List Part → List Hit → ℕ → Type 0
ComesPast terms hits taken parts hits' taken' =
    (more : List Part) → walk terms hits taken (parts ++ more) ≡ walk terms hits' taken' more

-- a search stops among these parts, and doesn't take the rest
abbrev pub SearchStopsAt : List (List ℕ) → List Hit → ℕ → List Part → List Hit → List Part → Type 0
SearchStopsAt terms hits taken parts hits' rest =
    (more : List Part)
    → walk terms hits taken (parts ++ more) ≡ record { hits = hits'; rest = rest ++ more }
