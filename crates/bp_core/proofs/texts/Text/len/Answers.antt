use Rattle.std.proofs.Common.{length, encode_utf8_all, ap, sym, ◌∙◌}
use Rattle.bp_core.proofs.TextLemmas.{encodes-chars}
use Rattle.bp_core.proofs.texts.Text.len.Goals as goal

pub returns : goal.returns
returns c =
    ap length c.as_bytes.ensures.value ∙ ap length (sym (encodes-chars c.self.inside.string))
    ∙ ap (λ cs. length (encode_utf8_all cs)) c.self.view_is
