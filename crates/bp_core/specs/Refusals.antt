-- Why a call gave nothing.
use Rattle.bp_core.specs.declared.rules.RuleKind.{RuleKind}
use Rattle.bp_core.specs.declared.refusals.Refusal.{Refusal}
use Rattle.bp_core.specs.declared.refusals.Refusal.TheVariants as refusals
use Rattle.bp_core.specs.Rules.{bare_rule}

-- a rule that uses no line and no value is broken
abbrev pub bare_refusal : RuleKind → Refusal
bare_refusal kind = refusals.Rule (bare_rule kind)
