use Rattle.std.proofs.Common.{◌≡◌, drop}
use Rattle.std.specs.Str.{chars}
use Rattle.std.specs.FinMap.{get}
use Rattle.bp_outside.specs.Memory.{file_map}
use Rattle.bp_outside.proofs.FileMapLemmas.{first_with}
use Rattle.bp_outside.proofs.memory.source.find_file.Given as goal

abbrev pub invariant-loop-file : goal.invariant-loop-file
invariant-loop-file l =
    get (file_map l.files) (chars l.path)
    ≡ first_with (chars l.path) (drop l.file-index l.files)
