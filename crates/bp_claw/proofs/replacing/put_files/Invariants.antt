use Rattle.std.proofs.Common.{length}
use Rattle.bp_claw.proofs.PutLemmas.{PutSoFar}
use Rattle.bp_claw.proofs.replacing.put_files.Given as goal

abbrev pub invariant-loop-left : goal.invariant-loop-left
invariant-loop-left g l = PutSoFar (g.F.Folder.shows l.initial.folder) l.fn.files (g.F.Folder.shows l.folder) l.left l.pressed

abbrev pub decreases-loop-left : goal.decreases-loop-left
decreases-loop-left g l = length l.left
