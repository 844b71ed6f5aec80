use Rattle.std.proofs.Common.{◌≡◌, ◌≤◌, ◌+◌, ◌^◌, length, ◌*◌}
use Rattle.bp_matter.specs.ValidPages.{strip_bytes_of}
use Rattle.bp_matter.proofs.checking.pages.strip_bytes_of.Given as goal

abbrev pub invariant-loop-first : goal.invariant-loop-first
invariant-loop-first l = record {
  sum : strip_bytes_of l.pages ≡ l.sum + strip_bytes_of l.rest;
  small : l.sum + length l.rest * 2 ^ 64 ≤ length l.pages * 2 ^ 64;
}

abbrev pub decreases-loop-first : goal.decreases-loop-first
decreases-loop-first l = length l.rest
