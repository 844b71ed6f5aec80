use Rattle.bp_press.specs.VolumeFiles.{file_of_entry}
use Rattle.bp_press.proofs.FindLemmas.{AreLinesFrom}
use Rattle.bp_press.proofs.finding.manifest_bytes.Given as goal

abbrev pub invariant-loop-file : goal.invariant-loop-file
invariant-loop-file g l = AreLinesFrom (file_of_entry l.production (g.P.Shows.matter l.shown)) l.list l.file-index l.manifest.items
