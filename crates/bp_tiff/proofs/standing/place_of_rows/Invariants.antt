use Rattle.bp_tiff.specs.Appending.{HasReadStrips, rows_before}
use Rattle.bp_tiff.specs.Standing.{rows_from}
use Rattle.bp_tiff.proofs.standing.place_of_rows.Given as goal

abbrev pub invariant-loop-k : goal.invariant-loop-k
invariant-loop-k l = HasReadStrips l.bytes l.layout l.k (rows_from l.bytes l.layout l.first (rows_before l.layout l.k))
