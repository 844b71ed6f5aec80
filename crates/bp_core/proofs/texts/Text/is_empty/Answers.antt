use Rattle.std.proofs.Common.{◌==◌, length, ap, ◌∙◌}
use Rattle.bp_core.proofs.TextLemmas.{empty-chars}
use Rattle.bp_core.proofs.texts.Text.is_empty.Goals as goal

pub returns : goal.returns
returns c =
    c.is_empty.ensures ∙ ap (λ bs. length bs == 0) c.as_bytes.ensures.value ∙ empty-chars c.self.inside.string
    ∙ ap (λ cs. length cs == 0) c.self.view_is
