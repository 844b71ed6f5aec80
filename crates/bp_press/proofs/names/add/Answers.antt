use Rattle.std.specs.String.{string_bytes}
use Rattle.std.proofs.lemmas.Str.{IsUtf8-string_bytes}
use Rattle.bp_press.proofs.NameLemmas.{chars_added}
use Rattle.bp_press.proofs.names.add.Goals as goal

pub returns : goal.returns
returns c = chars_added (string_bytes c.args.text.now) c.args.piece.now (string_bytes c.push_str.new.self) (IsUtf8-string_bytes c.args.text.now) c.in_ok-push_str.ensures.bytes
