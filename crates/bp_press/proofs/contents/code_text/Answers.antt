use Rattle.std.proofs.Common.{ap, ◌∙◌}
use Rattle.std.specs.Str.{chars}
use Rattle.std.proofs.lemmas.Str.{chars-nil}
use Rattle.bp_press.proofs.ContentLemmas.{chars_code}
use Rattle.bp_press.proofs.NameLemmas.{step}
use Rattle.bp_press.proofs.contents.code_text.Goals as goal

pub returns : goal.returns
returns c =
    c.from_string.ensures ∙ step _ _ _ _ _ c.in_ok-add.ensures (ap chars c.new-text.ensures.bytes ∙ chars-nil) (ap chars c.code.ensures ∙ chars_code c.args.basis)
