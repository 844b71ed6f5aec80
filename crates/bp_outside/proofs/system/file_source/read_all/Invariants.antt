use Rattle.std.proofs.Common.{◌≡◌, ◌+◌, false, length}
use Rattle.std.specs.Io.KnownBytes.{Consumes}
use Rattle.bp_outside.proofs.system.file_source.read_all.Given as goal

abbrev pub invariant-loop-taken : goal.invariant-loop-taken
invariant-loop-taken g l =
    record {
      all : length l.bytes.items + l.left ≡ l.max;
      lost : Consumes (g.F.Read.remaining l.initial.file.file) (g.F.Read.remaining l.file.file)
          l.bytes.items;
      unfailed : l.file.failed ≡ false;
    }

abbrev pub decreases-loop-taken : goal.decreases-loop-taken
decreases-loop-taken g l = l.left
