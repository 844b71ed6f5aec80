use Rattle.bp_tiff.specs.Appending.{HasReadStrips}
use Rattle.bp_tiff.proofs.strips.put_strips.Given as goal

abbrev pub invariant-loop-k : goal.invariant-loop-k
invariant-loop-k l = HasReadStrips l.bytes l.layout l.k l.out.items
