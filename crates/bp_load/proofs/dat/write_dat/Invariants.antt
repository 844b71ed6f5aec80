use Rattle.std.proofs.Common.{◌≡◌, ◌++◌, take, true}
use Rattle.std.specs.List.{flat_map, list_all}
use Rattle.std.specs.Str.{all_scalars}
use Rattle.std.specs.String.{string_bytes}
use Rattle.bp_load.specs.Dat.{dat_line_text}
use Rattle.bp_load.proofs.dat.write_dat.Given as goal

-- the columns and the rows so far are written
abbrev pub invariant-loop-row : goal.invariant-loop-row
invariant-loop-row l = record {
  written : string_bytes l.out ≡ dat_line_text l.fn.dat.columns ++ flat_map dat_line_text (take l.row-index l.row-items);
  scalars : list_all (list_all all_scalars) (take l.row-index l.row-items) ≡ true;
}
