-- Lemmas of grants that are made in turn.
use Rattle.std.proofs.Common.{ℕ, ◌≡◌, ◌+◌, List, ◌∷◌, Result, Ok, Err, sym, ap, subst, ◌∙◌}
use Rattle.bp_core.specs.Answers.{Answers}
use Rattle.bp_core.specs.RuleSteps.{◌>>=◌}
use Rattle.bp_core.specs.declared.refusals.Refusal.{Refusal}
use Rattle.bp_core.specs.declared.refusals.Refusal.TheVariants as refusals
use Rattle.bp_core.specs.declared.rules.Rule.{Rule}
use Rattle.bp_matter.specs.Matter.{Matter}
use Rattle.bp_receiver.specs.Delivering.{GrantGives}
use Rattle.bp_receiver.specs.Events.{Holding}
use Rattle.bp_receiver.specs.Granting.{at_record, grant_each, grant_of}
use Rattle.bp_receiver.specs.declared.grants.Grant.{Grant}

-- one was made: the others come to what all come to
pub grant_made : (m : Matter) (grants : List Grant) (n : ℕ) (new : Grant) (more standing : List Grant) (total : Result (List Grant) Rule)
    → at_record n (grant_of m grants new) ≡ Ok standing
    → grant_each m grants n (new ∷ more) ≡ total
    → grant_each m standing (n + 1) more ≡ total
grant_made m grants n new more standing total made all =
    sym (ap (λ (r : Result (List Grant) Rule). r >>= (λ s. grant_each m s (n + 1) more)) made) ∙ all

-- one was refused: so are all
grant_broken : (m : Matter) (grants : List Grant) (n : ℕ) (new : Grant) (more : List Grant) (total : Result (List Grant) Rule) (rule : Rule)
    → at_record n (grant_of m grants new) ≡ Err rule
    → grant_each m grants n (new ∷ more) ≡ total
    → total ≡ Err rule
grant_broken m grants n new more total rule broken all =
    sym all ∙ ap (λ (r : Result (List Grant) Rule). r >>= (λ s. grant_each m s (n + 1) more)) broken

pub grant_refused : (m : Matter) (desk : Holding) (n : ℕ) (new : Grant) (more : List Grant) (total : Result (List Grant) Rule) (refusal : Refusal) (k : Holding)
    → desk.matter ≡ m
    → grant_each m desk.grants n (new ∷ more) ≡ total
    → GrantGives desk (at_record n (grant_of desk.matter desk.grants new)) (Err refusal) k
    → Answers (λ (h : Holding). h.grants) (Err refusal) total
grant_refused m desk n new more total (refusals.Rule rule) k over all gives =
    grant_broken m desk.grants n new more total rule
    (subst (λ (x : Matter). at_record n (grant_of x desk.grants new) ≡ Err rule) over gives.broken) all
grant_refused m desk n new more total refusals.OutOfMemory k over all gives = tt
