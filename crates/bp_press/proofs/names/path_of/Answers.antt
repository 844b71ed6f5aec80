use Rattle.std.proofs.Common.{ap, ◌∙◌, refl}
use Rattle.std.specs.Str.{chars}
use Rattle.std.proofs.lemmas.Str.{chars-nil}
use Rattle.bp_press.proofs.NameLemmas.{step, four_steps}
use Rattle.bp_press.proofs.names.path_of.Goals as goal

pub returns : goal.returns
returns c =
    let one = step _ _ _ _ _ c.in_ok-add.ensures (ap chars c.new-path.ensures.bytes ∙ chars-nil) c.as_str.ensures.characters in
    let two = step _ _ _ _ _ c.in_ok-add_character.ensures one refl in
    let three = step _ _ _ _ _ c.in_ok-add-2.ensures two refl in
    let four = step _ _ _ _ _ c.in_ok-add_character-2.ensures three refl in
    let five = step _ _ _ _ _ c.in_ok-add-3.ensures four c.as_str-2.ensures.characters in
    let six = step _ _ _ _ _ c.in_ok-add_character-3.ensures five refl in
    let seven = step _ _ _ _ _ c.in_ok-add-4.ensures six c.as_str-3.ensures.characters in
    let eight = step _ _ _ _ _ c.in_ok-add-5.ensures seven refl in
    c.from_string.ensures ∙ eight ∙ four_steps c.args.volume.now (chars c.args.kind.now) c.args.folder.now c.args.last.label.now (chars c.args.last.ending.now) c.args.separator
