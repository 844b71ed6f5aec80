use Rattle.std.proofs.Common.{◌≡◌, ◌≤◌, ◌+◌, length, map}
use Rattle.bp_check.specs.Manifest.{between_newlines, listed_from, listed_files}
use Rattle.bp_check.specs.Seen.{listed_seen}
use Rattle.bp_check.specs.Steps.{behind}
use Rattle.bp_check.proofs.manifest.read_manifest.Given as goal

-- the files of the lines so far, and what those list that are left
abbrev pub invariant-loop-rest : goal.invariant-loop-rest
invariant-loop-rest l = record {
  counted : l.number + length l.rest ≤ length l.fn.bytes;
  told : behind (map listed_seen l.listed.items) (listed_from (l.number + 1) (between_newlines l.rest)) ≡ listed_files l.fn.bytes;
}

abbrev pub decreases-loop-rest : goal.decreases-loop-rest
decreases-loop-rest l = length l.rest
