use Rattle.std.proofs.Common.{◌≡◌, ◌≤◌, ◌+◌, ◌*◌, ◌^◌, length}
use Rattle.bp_matter.specs.ValidPages.{strip_bytes_of}
use Rattle.bp_rules.proofs.limits.strip_bytes_of.Given as goal

abbrev pub invariant-loop-row : goal.invariant-loop-row
invariant-loop-row l = record {
  sum : strip_bytes_of l.pages ≡ l.sum + strip_bytes_of l.rest;
  few : l.sum + length l.rest * 2 ^ 32 ≤ length l.pages * 2 ^ 32;
}

abbrev pub decreases-loop-row : goal.decreases-loop-row
decreases-loop-row l = length l.rest
