use Rattle.std.proofs.Common.{◌≡◌, drop}
use Rattle.std.specs.Str.{chars}
use denote.Shadow.{shadow}
use denote.Text.{Utf8}
use Rattle.bp_looks.specs.Matching.{begins}
use Rattle.bp_looks.proofs.matching.begins.Given as goal

abbrev pub invariant-loop-sign : goal.invariant-loop-sign
invariant-loop-sign l =
    (begins l.more_follows (drop l.sign-index l.signs) (chars l.rest)
    ≡ begins l.more_follows l.signs (chars l.word))
    × shadow (Utf8 l.rest)
