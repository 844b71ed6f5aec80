use Rattle.std.proofs.Common.{◌≡◌, ap, refl, ◌∙◌}
use Rattle.std.specs.Prelude.{codes}
use Rattle.std.specs.Str.{chars}
use Rattle.bp_rules.proofs.new_matter.lead_name.Goals as goal

lead_is : chars (codes "lead") ≡ codes "lead"
unfolding chars
lead_is = refl

pub returns : goal.returns
returns c = c.from_string.ensures ∙ ap chars c.in_ok-from_str.ensures.ok ∙ lead_is
