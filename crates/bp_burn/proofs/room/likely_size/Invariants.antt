use Rattle.std.proofs.Common.{◌≤◌}
use Rattle.bp_burn.proofs.room.likely_size.Given as goal

-- no more pixels are bare than the page has
abbrev pub invariant-loop-stamp : goal.invariant-loop-stamp
invariant-loop-stamp l = l.bare ≤ l.page
