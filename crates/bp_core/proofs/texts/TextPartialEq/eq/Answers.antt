use Rattle.std.proofs.Common.{ap, ◌∙◌}
use Rattle.std.specs.Str.{bytes_eq, chars}
use Rattle.std.specs.String.{string_bytes}
use Rattle.bp_core.proofs.TextLemmas.{bytes_eq-chars}
use Rattle.bp_core.proofs.texts.TextPartialEq.eq.Goals as goal

pub returns : goal.returns
returns c =
    c.eq.ensures ∙ bytes_eq-chars c.self.inside.string c.other.inside.string
    ∙ ap (λ cs. bytes_eq cs (chars (string_bytes c.other.inside.string))) c.self.view_is
    ∙ ap (bytes_eq c.args.self.now) c.other.view_is
