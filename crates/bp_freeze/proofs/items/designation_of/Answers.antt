use Rattle.std.proofs.Common.{◌∙◌, ap}
use Rattle.std.specs.Str.{chars}
use Rattle.std.proofs.lemmas.Str.{chars-nil}
use Rattle.bp_freeze.proofs.items.designation_of.Goals as goal

pub returns-in-None : goal.returns-in-None
returns-in-None c = rw c.in-None.is (c.from_string.ensures ∙ ap chars c.new.ensures.bytes ∙ chars-nil)
