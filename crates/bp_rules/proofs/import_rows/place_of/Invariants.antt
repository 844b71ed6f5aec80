use Rattle.std.proofs.Common.{◌≡◌, ◌≤◌, ◌+◌, length}
use Rattle.bp_rules.specs.ImportRows.{place_of}
use Rattle.bp_rules.proofs.import_rows.place_of.Given as goal

abbrev pub invariant-loop-other : goal.invariant-loop-other
invariant-loop-other l = record {
  place : place_of 0 l.name l.names ≡ place_of l.place l.name l.rest;
  within : l.place + length l.rest ≤ length l.names;
}

abbrev pub decreases-loop-other : goal.decreases-loop-other
decreases-loop-other l = length l.rest
