use Rattle.std.proofs.Common.{◌≡◌, ◌∷◌, ◌++◌, take, true, encode_utf8_all}
use Rattle.std.specs.List.{flat_map, list_all}
use Rattle.std.specs.Str.{all_scalars}
use Rattle.std.specs.String.{string_bytes}
use Rattle.bp_load.specs.Dat.{quoted}
use Rattle.bp_load.proofs.dat.write_others.Given as goal

-- the values so far are written
abbrev pub invariant-loop-value : goal.invariant-loop-value
invariant-loop-value l = record {
  written : string_bytes l.out ≡ string_bytes l.fn.out ++ flat_map (λ value. 0x14 ∷ encode_utf8_all (quoted value)) (take l.value-index l.values);
  scalars : list_all all_scalars (take l.value-index l.values) ≡ true;
}
