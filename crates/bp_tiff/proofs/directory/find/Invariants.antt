use Rattle.std.proofs.Common.{◌≡◌, ◌+◌, ◌-◌, ◌*◌}
use Rattle.bp_tiff.specs.Directory.{first_from}
use Rattle.bp_tiff.proofs.directory.find.Given as goal

abbrev pub invariant-loop-k : goal.invariant-loop-k
invariant-loop-k l =
    first_from l.directory.order l.bytes l.tag (l.directory.count - l.k) (l.directory.first + 12 * l.k)
    ≡ first_from l.directory.order l.bytes l.tag l.directory.count l.directory.first
