use Rattle.std.proofs.Common.{◌≡◌, ◌≤◌, ◌+◌, ◌*◌, ◌^◌, length}
use Rattle.bp_matter.specs.Batches.{pages_in}
use Rattle.bp_rules.specs.Limits.{strip_bytes_in}
use Rattle.bp_rules.proofs.limits.strip_bytes_in.Given as goal

abbrev pub invariant-loop-doc : goal.invariant-loop-doc
invariant-loop-doc l = record {
  sum : strip_bytes_in l.docs ≡ l.sum + strip_bytes_in l.rest;
  few : l.sum + pages_in l.rest * 2 ^ 32 ≤ pages_in l.docs * 2 ^ 32;
}

abbrev pub decreases-loop-doc : goal.decreases-loop-doc
decreases-loop-doc l = length l.rest
