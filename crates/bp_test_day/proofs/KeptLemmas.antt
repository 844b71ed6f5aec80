-- Lemmas of look-ups: the production that the tables find by an id is one that they keep.
use Rattle.std.proofs.Common.{ℕ, ◌≡◌, List, Option, Some, sym, ap, subst, ◌∙◌, Bor}
use Rattle.std.specs.Option.{option_copied}
use Rattle.bp_matter.specs.Matter.{Matter}
use Rattle.bp_matter.specs.declared.rows.Production.{Production}
use Rattle.bp_freeze.specs.Freezing.{kept_production}
use Rattle.bp_freeze.specs.Keeping.{KeepsProduction}
use Rattle.bp_freeze.proofs.KeptLemmas.{kept-id}

-- what is found under an id is kept under its own
kept_under : (m : Matter) (id : List ℕ) (f : Production) → kept_production m.productions id ≡ Some f → KeepsProduction m f
kept_under m id f found = subst (λ (i : List ℕ). kept_production m.productions i ≡ Some f) (sym (kept-id m.productions id f found)) found

pub found_keeps : (m : Matter) (id : List ℕ) (found : Option (Bor Production)) (f : Bor Production) → option_copied found ≡ kept_production m.productions id → found ≡ Some f → KeepsProduction m f.now
found_keeps m id found f copied is = kept_under m id f.now (sym copied ∙ ap option_copied is)
