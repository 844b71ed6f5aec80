use Rattle.std.proofs.Common.{ap, ◌∙◌}
use Rattle.std.specs.Str.{chars}
use Rattle.std.proofs.lemmas.Str.{chars-nil}
use Rattle.bp_press.proofs.NameLemmas.{step, chars_manifest}
use Rattle.bp_press.proofs.names.manifest_path.Goals as goal

pub returns : goal.returns
returns c =
    let one = step _ _ _ _ _ c.in_ok-add.ensures (ap chars c.new-path.ensures.bytes ∙ chars-nil) c.as_str.ensures.characters in
    c.from_string.ensures ∙ step _ _ _ _ _ c.in_ok-add-2.ensures one chars_manifest
