use Rattle.std.specs.String.{string_bytes}
use Rattle.std.proofs.lemmas.Str.{IsUtf8-string_bytes}
use Rattle.bp_press.proofs.NameLemmas.{character_added}
use Rattle.bp_press.proofs.names.add_character.Goals as goal

pub returns : goal.returns
returns c =
    character_added (string_bytes c.args.text.now) (string_bytes c.push.new.self) c.args.character (IsUtf8-string_bytes c.args.text.now) c.ranges.character.0 c.in_ok-push.ensures.bytes
