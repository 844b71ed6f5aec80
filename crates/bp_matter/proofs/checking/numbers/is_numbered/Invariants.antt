use Rattle.std.proofs.Common.{◌≡◌, ◌≤◌, ◌+◌, ◌^◌, length}
use Rattle.bp_matter.specs.ValidRows.{is_numbered}
use Rattle.bp_matter.proofs.checking.numbers.is_numbered.Given as goal

abbrev pub invariant-loop-first : goal.invariant-loop-first
invariant-loop-first g l = record {
  so_far : is_numbered g.T.Keyed.key_of l.from l.rows ≡ is_numbered g.T.Keyed.key_of l.number l.rest;
  small : l.number + length l.rest ≤ 2 ^ 64 + length l.rows;
}

abbrev pub decreases-loop-first : goal.decreases-loop-first
decreases-loop-first g l = length l.rest
