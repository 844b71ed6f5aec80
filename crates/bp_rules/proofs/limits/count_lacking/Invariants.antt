use Rattle.std.proofs.Common.{◌≡◌, ◌≤◌, ◌+◌, length}
use Rattle.bp_rules.specs.ImportRows.{lacking}
use Rattle.bp_rules.proofs.limits.count_lacking.Given as goal

abbrev pub invariant-loop-name : goal.invariant-loop-name
invariant-loop-name l = record {
  count : length (lacking l.fields l.names) ≡ l.count + length (lacking l.fields l.rest);
  few : l.count + length l.rest ≤ length l.names;
}

abbrev pub decreases-loop-name : goal.decreases-loop-name
decreases-loop-name l = length l.rest
