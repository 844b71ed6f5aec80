use Rattle.std.proofs.Common.{◌≡◌, ◌==◌, ◌++◌, true, length, drop, map, reverse, vec_len}
use Rattle.std.specs.List.{list_all}
use Rattle.bp_import.specs.Records.{record_of}
use Rattle.bp_import.proofs.records.records_of.Given as goal

-- the records of the rows that were taken
abbrev pub invariant-loop-row : goal.invariant-loop-row
invariant-loop-row l =
    let taken = drop (length l.left.items) l.fn.rows in
    record {
      whole : l.left.items ++ taken ≡ l.fn.rows;
      even : list_all (λ row. length row == length l.columns) l.left.items ≡ true;
      told : reverse l.docs.items ≡ map (record_of l.columns) taken;
    }

abbrev pub decreases-loop-row : goal.decreases-loop-row
decreases-loop-row l = vec_len l.left
