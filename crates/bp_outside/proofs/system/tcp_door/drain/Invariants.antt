use Rattle.std.proofs.Common.{◌-◌, ◌≤◌}
use Rattle.bp_outside.specs.Reading.{TakesAtMost}
use Rattle.bp_outside.specs.declared.system.tcp_door.TheConstants.{DRAIN_LIMIT}
use Rattle.bp_outside.proofs.system.tcp_door.drain.Given as goal

abbrev pub invariant-loop-left : goal.invariant-loop-left
invariant-loop-left g l =
    record {
      within : l.left ≤ DRAIN_LIMIT;
      taken : TakesAtMost (DRAIN_LIMIT - l.left) (g.S.Read.remaining l.initial.stream)
          (g.S.Read.remaining l.stream);
    }

abbrev pub decreases-loop-left : goal.decreases-loop-left
decreases-loop-left g l = l.left
