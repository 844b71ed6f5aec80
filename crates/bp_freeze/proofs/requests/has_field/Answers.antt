use Rattle.std.proofs.Common.{◌∙◌, sym}
use Rattle.std.specs.Str.{bytes_eq}
use Rattle.bp_matter.specs.ValidFields.{field_name}
use Rattle.bp_freeze.proofs.RuleLemmas.{any-map}
use Rattle.bp_freeze.proofs.requests.has_field.Goals as goal

pub returns : goal.returns
returns c = c.has_name.ensures ∙ sym (any-map (λ other. bytes_eq other c.args.name.now) field_name c.args.fields.now)
