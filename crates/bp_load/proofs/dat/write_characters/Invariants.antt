use Rattle.std.proofs.Common.{◌≡◌, ◌++◌, map, encode_utf8_all}
use Rattle.std.specs.String.{string_bytes}
use Rattle.bp_load.specs.Dat.{write_character}
use Rattle.bp_load.proofs.dat.write_characters.Given as goal

-- the characters so far are written
abbrev pub invariant-loop-c : goal.invariant-loop-c
invariant-loop-c l = string_bytes l.out ≡ string_bytes l.fn.out ++ encode_utf8_all (map write_character l.yielded)
