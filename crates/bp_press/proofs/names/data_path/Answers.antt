use Rattle.std.proofs.Common.{ap, ◌∙◌, refl}
use Rattle.std.specs.Prelude.{codes}
use Rattle.std.specs.Str.{chars}
use Rattle.std.proofs.lemmas.Str.{chars-nil}
use Rattle.bp_press.proofs.NameLemmas.{step, data_steps, chars_data}
use Rattle.bp_press.proofs.names.data_path.Goals as goal

pub returns : goal.returns
returns c =
    let one = step _ _ _ _ _ c.in_ok-add.ensures (ap chars c.new-path.ensures.bytes ∙ chars-nil) c.as_str.ensures.characters in
    let two = step _ _ _ _ _ c.in_ok-add-2.ensures one chars_data in
    let three = step _ _ _ _ _ c.in_ok-add-3.ensures two c.as_str-2.ensures.characters in
    let four = step _ _ _ _ _ c.in_ok-add-4.ensures three refl in
    c.from_string.ensures ∙ four ∙ data_steps c.args.request.now.volume (codes "/DATA/") (chars c.args.ending.now)
