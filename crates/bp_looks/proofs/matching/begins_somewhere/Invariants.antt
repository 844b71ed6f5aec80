use Rattle.std.proofs.Common.{◌≡◌, length}
use Rattle.std.specs.Str.{chars}
use denote.Shadow.{shadow}
use denote.Text.{Utf8}
use Rattle.bp_looks.specs.Matching.{begins_somewhere}
use Rattle.bp_looks.proofs.matching.begins_somewhere.Given as goal

abbrev pub invariant-rest : goal.invariant-rest
invariant-rest l =
    (begins_somewhere l.more_follows l.signs (chars l.rest)
    ≡ begins_somewhere l.more_follows l.signs (chars l.word))
    × shadow (Utf8 l.rest)

abbrev pub decreases-rest : goal.decreases-rest
decreases-rest l = length l.rest
