use Rattle.std.proofs.Common.{encode_utf8_all, ap, sym, ◌∙◌}
use Rattle.bp_core.proofs.TextLemmas.{encodes-chars}
use Rattle.bp_core.proofs.texts.Text.into_string.Goals as goal

pub returns : goal.returns
returns c = sym (encodes-chars c.self.inside.string) ∙ ap encode_utf8_all c.self.view_is
