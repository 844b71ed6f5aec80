use Rattle.std.proofs.Common.{◌≡◌, ◌≤◌, ◌+◌, ◌*◌, ◌^◌, length}
use Rattle.bp_rules.specs.Limits.{strip_bytes_on}
use Rattle.bp_rules.proofs.limits.strip_bytes_on.Given as goal

abbrev pub invariant-loop-page : goal.invariant-loop-page
invariant-loop-page l = record {
  sum : strip_bytes_on l.pages ≡ l.sum + strip_bytes_on l.rest;
  few : l.sum + length l.rest * 2 ^ 32 ≤ length l.pages * 2 ^ 32;
}

abbrev pub decreases-loop-page : goal.decreases-loop-page
decreases-loop-page l = length l.rest
