-- What a freeze answers, by what is kept under the id.
use Rattle.std.proofs.Common.{◌≡◌, Option, Some, None, Result, Ok, Err, subst, if◌then◌else◌}
use Rattle.bp_core.specs.Answers.{Answers}
use Rattle.bp_core.specs.Rules.{bare_rule}
use Rattle.bp_core.specs.declared.refusals.Refusal.{Refusal}
use Rattle.bp_core.specs.declared.rules.Rule.{Rule}
use Rattle.bp_core.specs.declared.rules.RuleKind.TheVariants.{RequestDiffers}
use Rattle.bp_matter.specs.Matter.{Matter}
use Rattle.bp_matter.specs.declared.rows.Production.{Production}
use Rattle.bp_matter.specs.declared.rows.Request.{Request}
use Rattle.bp_freeze.specs.Alike.{DecidedAlike}
use Rattle.bp_freeze.specs.Freezing.{freeze_of, frozen_by, frozen_unless, kept_production, new_production, same_request}
use Rattle.bp_freeze.specs.Refusals.{first_refusal}
use Rattle.bp_freeze.specs.Seeing.{decisions_of, seen_of}
use Rattle.bp_freeze.proofs.AlikeLemmas.{freeze-same}

pub kept-answers : (m : Matter) (q : Request) (f : Production) (result : Result Production Refusal) → Some f ≡ kept_production m.productions q.id
    → Answers (λ (f : Production). f) result (if same_request f.request q then Ok f else Err (bare_rule RequestDiffers)) → Answers (λ (f : Production). f) result (freeze_of m q)
unfolding freeze_of
kept-answers m q f result kept answers =
    let P : Option Production → Type 0 = λ o. Answers (λ (f : Production). f) result (frozen_by o (decisions_of m) (seen_of m q) q) in
    subst P kept answers

pub new-answers : (m : Matter) (q : Request) (result : Result Production Refusal) → None ≡ kept_production m.productions q.id
    → Answers (λ (f : Production). f) result (frozen_unless (first_refusal (decisions_of m) (seen_of m q) q) (new_production (decisions_of m) (seen_of m q) q))
    → Answers (λ (f : Production). f) result (freeze_of m q)
unfolding freeze_of
new-answers m q result none answers =
    let P : Option Production → Type 0 = λ o. Answers (λ (f : Production). f) result (frozen_by o (decisions_of m) (seen_of m q) q) in
    subst P none answers

pub alike-answers : (m other : Matter) (q : Request) (result : Result Production Refusal) → DecidedAlike q m other → Answers (λ (f : Production). f) result (freeze_of m q)
    → Answers (λ (f : Production). f) result (freeze_of other q)
alike-answers m other q result alike answers =
    let P : Result Production Rule → Type 0 = λ answer. Answers (λ (f : Production). f) result answer in
    subst P (freeze-same q m other alike) answers
