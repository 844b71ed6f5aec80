-- Lemmas of the rules of a freeze: none of them raises a count of the source.
use Rattle.std.proofs.Common.{ℕ, ◌≡◌, Bool, true, false, cond, List, [], ◌∷◌, ◌++◌, Option, Some, None, Result, Ok, Err, refl, ap, subst}
use Rattle.bp_core.specs.Rules.{bare_rule}
use Rattle.bp_core.specs.declared.rules.Rule.{Rule}
use Rattle.bp_core.specs.declared.rules.RuleKind.{RuleKind}
use Rattle.bp_core.specs.declared.rules.RuleKind.TheVariants as kinds
use Rattle.bp_outside.specs.Source.{SourceView}
use Rattle.bp_import.specs.Importing.{after_kind}
use Rattle.bp_matter.specs.Matter.{Matter}
use Rattle.bp_matter.specs.declared.rows.PrefixRow.{PrefixRow}
use Rattle.bp_matter.specs.declared.rows.Production.{Production}
use Rattle.bp_matter.specs.declared.rows.Request.{Request}
use Rattle.bp_freeze.specs.Freezing.{freeze_of, frozen_by, frozen_unless, kept_production, new_production, same_request}
use Rattle.bp_freeze.specs.Refusals.{family_rules, first_refusal, first_rule, none_of, prefix_row, request_rules, rule_with, same_width, taking_rules, unless}
use Rattle.bp_freeze.specs.Seeing.{Decisions, Seen, decisions_of, seen_of}

-- a rule raises no count of the source
abbrev pub IsCalm : Rule → Type 0
IsCalm rule = (source : SourceView) → source ≡ after_kind source rule.kind

-- each of these rules that is met is calm
AreCalm : List (Option Rule) → Type 0
AreCalm [] = Unit {0}
AreCalm (o ∷ rules) = ((rule : Rule) → o ≡ Some rule → IsCalm rule) × AreCalm rules

first_calm : (rules : List (Option Rule)) (rule : Rule) → AreCalm rules → first_rule rules ≡ Some rule → IsCalm rule
unfolding AreCalm
first_calm [] rule calm is = absurd cc
first_calm (None ∷ rules) rule calm is = first_calm rules rule calm.1 is
first_calm (Some r ∷ rules) rule calm is = calm.0 rule is

same_calm : (r rule : Rule) → r ≡ rule → IsCalm r → IsCalm rule
same_calm r rule same calm = subst IsCalm same calm

no_rule : (rule : Rule) → let none : Option Rule = None in none ≡ Some rule → ⊥
no_rule rule is = cc

some_rule : (r rule : Rule) → Some r ≡ Some rule → r ≡ rule
some_rule r rule is = cc

unless_calm : (test : Bool) (r rule : Rule) → IsCalm r → unless test r ≡ Some rule → IsCalm rule
unless_calm true r rule calm is = absurd (no_rule rule is)
unless_calm false r rule calm is = same_calm r rule (some_rule r rule is) calm

none_calm : (kind : RuleKind) (found : Option Seen) (rule : Rule) → ((a : ℕ) → IsCalm (rule_with kind a)) → none_of kind found ≡ Some rule → IsCalm rule
none_calm kind None rule calm is = absurd (no_rule rule is)
none_calm kind (Some s) rule calm is = same_calm (rule_with kind s.doc) rule (some_rule (rule_with kind s.doc) rule is) (calm s.doc)

width_calm : (row : Option PrefixRow) (width : ℕ) (rule : Rule) → same_width row width ≡ Some rule → IsCalm rule
width_calm None width rule is = absurd cc
width_calm (Some row) width rule is = unless_calm _ (rule_with kinds.PrefixDiffers row.prefix.width) rule (λ source. refl) is

calm_rules : (d : Decisions) (docs : List Seen) (q : Request) (rule : Rule) → first_refusal d docs q ≡ Some rule → IsCalm rule
unfolding AreCalm
calm_rules d docs q rule is =
    let rules : List (Option Rule) = request_rules d q ++ (family_rules d docs q ++ taking_rules d docs q) in
    let calm : AreCalm rules = (
      λ r. unless_calm _ _ r (λ source. refl),
      (
        λ r. unless_calm _ _ r (λ source. refl),
        (
          λ r. unless_calm _ _ r (λ source. refl),
          (
            λ r. unless_calm _ _ r (λ source. refl),
            (
              λ r. unless_calm _ _ r (λ source. refl),
              (
                λ r. width_calm (prefix_row d.prefixes q.prefix.text) q.prefix.width r,
                (
                  λ r. unless_calm _ _ r (λ source. refl),
                  (
                    λ r. none_calm _ _ r (λ a source. refl),
                    (
                      λ r. none_calm _ _ r (λ a source. refl),
                      (
                        λ r. unless_calm _ _ r (λ source. refl),
                        (
                          λ r. unless_calm _ _ r (λ source. refl),
                          (λ r. unless_calm _ _ r (λ source. refl), tt),
                        ),
                      ),
                    ),
                  ),
                ),
              ),
            ),
          ),
        ),
      ),
    ) in
    first_calm rules rule calm is

unless_frozen : (o : Option Rule) (f : Production) (rule : Rule) → frozen_unless o f ≡ Err rule → o ≡ Some rule
unless_frozen None f rule is = absurd cc
unless_frozen (Some r) f rule is = let same : r ≡ rule = cc in ap (λ (x : Rule). Some x) same

err_rule : (r rule : Rule) → let one : Result Production Rule = Err r in one ≡ Err rule → r ≡ rule
err_rule r rule is = cc

repeat_calm : (same : Bool) (f : Production) (rule : Rule) → let differs : Result Production Rule = Err (bare_rule kinds.RequestDiffers) in cond same (Ok f) differs ≡ Err rule → IsCalm rule
repeat_calm true f rule is = absurd cc
repeat_calm false f rule is = same_calm (bare_rule kinds.RequestDiffers) rule (err_rule (bare_rule kinds.RequestDiffers) rule is) (λ source. refl)

frozen_calm : (kept : Option Production) (d : Decisions) (docs : List Seen) (q : Request) (rule : Rule) → frozen_by kept d docs q ≡ Err rule → IsCalm rule
frozen_calm (Some f) d docs q rule is = repeat_calm (same_request f.request q) f rule is
frozen_calm None d docs q rule is = calm_rules d docs q rule (unless_frozen (first_refusal d docs q) (new_production d docs q) rule is)

pub freeze_calm : (m : Matter) (q : Request) (rule : Rule) → freeze_of m q ≡ Err rule → IsCalm rule
unfolding freeze_of
freeze_calm m q rule is = frozen_calm (kept_production m.productions q.id) (decisions_of m) (seen_of m q) q rule is
