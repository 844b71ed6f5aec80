use Rattle.std.specs.Str.{bytes_eq}
use Rattle.bp_press.specs.VolumeFiles.{entry_path}
use Rattle.bp_press.proofs.FindLemmas.{AreSought}
use Rattle.bp_press.proofs.entries.entry_at.Given as goal

abbrev pub invariant-loop-file : goal.invariant-loop-file
invariant-loop-file l = AreSought (λ entry. bytes_eq (entry_path l.production entry) l.path) l.list l.file-index
