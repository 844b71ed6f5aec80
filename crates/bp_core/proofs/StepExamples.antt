-- Worked examples of steps of which each may break a rule.
use Rattle.std.proofs.Common.{◌≡◌, ℕ, Result, Ok, Err, refl}
use Rattle.bp_core.specs.RuleSteps.{◌>>=◌}
use Rattle.bp_core.specs.Rules.{bare_rule}
use Rattle.bp_core.specs.declared.rules.Rule.{Rule}
use Rattle.bp_core.specs.declared.rules.RuleKind.TheVariants as kinds

-- two steps, and what both gave
abbrev both : Result ℕ Rule → Result ℕ Rule → Result ℕ Rule
both one two = do
  first ← one
  _ ← two
  Ok first

each_gives : both (Ok 1) (Ok 2) ≡ Ok 1
each_gives = refl

the_first_breaks : both (Err (bare_rule kinds.NoPage)) (Err (bare_rule kinds.NoField)) ≡ Err (bare_rule kinds.NoPage)
the_first_breaks = refl

the_second_breaks : both (Ok 1) (Err (bare_rule kinds.NoField)) ≡ Err (bare_rule kinds.NoField)
the_second_breaks = refl
