use Rattle.std.proofs.Common.{◌≡◌, map, encode_utf8_all}
use Rattle.std.specs.String.{string_bytes}
use Rattle.bp_load.specs.Dat.{read_character}
use Rattle.bp_load.proofs.dat.with_newlines.Given as goal

-- the characters so far are read
abbrev pub invariant-loop-c : goal.invariant-loop-c
invariant-loop-c l = string_bytes l.read ≡ encode_utf8_all (map read_character l.yielded)
