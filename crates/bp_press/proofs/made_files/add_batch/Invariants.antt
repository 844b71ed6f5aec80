use Rattle.std.proofs.Common.{◌-◌, length}
use Rattle.bp_press.specs.VolumeFiles.{file_of_entry}
use Rattle.bp_press.proofs.AddLemmas.{AreEntriesFrom}
use Rattle.bp_press.proofs.made_files.add_batch.Given as goal

abbrev pub invariant-loop-place : goal.invariant-loop-place
invariant-loop-place g l =
    AreEntriesFrom (file_of_entry l.maker.production.now (g.P.Shows.matter l.maker.shown.now)) l.files l.place
    (g.F.Folder.shows l.initial.folder) (g.F.Folder.shows l.folder) l.initial.manifest.items l.manifest.items

abbrev pub decreases-loop-place : goal.decreases-loop-place
decreases-loop-place g l = length l.files - l.place
