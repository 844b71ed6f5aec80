use Rattle.std.proofs.Common.{◌-◌, length}
use Rattle.bp_press.specs.Batches.{IsCodedBatch}
use Rattle.bp_press.specs.VolumeFiles.{file_of_entry}
use Rattle.bp_press.proofs.AddLemmas.{AreEntriesFrom}
use Rattle.bp_press.proofs.pressing.add_listed.Given as goal

abbrev pub invariant-loop-coded : goal.invariant-loop-coded
invariant-loop-coded g l =
    AreEntriesFrom (file_of_entry l.maker.production.now (g.P.Shows.matter l.maker.shown.now)) l.maker.list.now l.from
    (g.F.Folder.shows l.initial.folder) (g.F.Folder.shows l.folder) l.initial.manifest.items l.manifest.items
    × IsCodedBatch l.maker.production.now (g.P.Shows.matter l.maker.shown.now) l.maker.list.now l.from l.coded

abbrev pub decreases-loop-coded : goal.decreases-loop-coded
decreases-loop-coded g l = length l.maker.list.now - l.from
