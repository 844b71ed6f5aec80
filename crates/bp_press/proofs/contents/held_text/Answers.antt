use Rattle.std.proofs.Common.{ap, ◌∙◌}
use Rattle.std.specs.Str.{chars}
use Rattle.std.proofs.lemmas.Str.{chars-nil}
use Rattle.bp_press.proofs.ContentLemmas.{chars_code, chars_withheld}
use Rattle.bp_press.proofs.NameLemmas.{step}
use Rattle.bp_press.proofs.contents.held_text.Goals as goal

pub returns : goal.returns
returns c =
    let one = step _ _ _ _ _ c.in_ok-add.ensures (ap chars c.new-text.ensures.bytes ∙ chars-nil) chars_withheld in
    c.from_string.ensures ∙ step _ _ _ _ _ c.in_ok-add-2.ensures one (ap chars c.code.ensures ∙ chars_code c.args.held.now.basis)
