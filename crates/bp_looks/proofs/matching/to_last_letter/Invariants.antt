use Rattle.std.proofs.Common.{◌≡◌, length}
use Rattle.std.specs.Prelude.{reverse}
use Rattle.std.specs.Str.{chars}
use denote.Shadow.{shadow}
use denote.Text.{Utf8}
use Rattle.bp_looks.specs.Matching.{from_first_letter}
use Rattle.bp_looks.proofs.matching.to_last_letter.Given as goal

abbrev pub invariant-loop-c : goal.invariant-loop-c
invariant-loop-c l =
    (from_first_letter (reverse (chars l.rest)) ≡ from_first_letter (reverse (chars l.word)))
    × shadow (Utf8 l.rest)

abbrev pub decreases-loop-c : goal.decreases-loop-c
decreases-loop-c l = length l.rest
