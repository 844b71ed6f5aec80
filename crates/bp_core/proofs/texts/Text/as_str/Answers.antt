use Rattle.std.proofs.Common.{encode_utf8_all, ap, sym, ◌∙◌}
use Rattle.std.specs.Str.{all_scalars}
use Rattle.bp_core.proofs.TextLemmas.{encodes-chars, scalars-chars}
use Rattle.bp_core.proofs.texts.Text.as_str.Goals as goal

pub returns-clause-bytes : goal.returns-clause-bytes
returns-clause-bytes c =
    c.as_str.ensures.value ∙ sym (encodes-chars c.self.inside.string) ∙ ap encode_utf8_all c.self.view_is

pub returns-clause-scalars : goal.returns-clause-scalars
returns-clause-scalars c = ap all_scalars (sym c.self.view_is) ∙ scalars-chars c.self.inside.string
