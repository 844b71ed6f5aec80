use Rattle.std.proofs.Common.{◌≡◌, drop, map}
use Rattle.bp_rules.specs.Running.{run_of}
use Rattle.bp_demo.specs.Demo.{call_step}
use Rattle.bp_demo.proofs.tables.make_calls.Given as goal

-- with the calls that are left it comes to the same
abbrev pub invariant-loop-asked : goal.invariant-loop-asked
invariant-loop-asked l = run_of l.tables.matter (map call_step (drop l.asked-index l.calls)) ≡ run_of l.initial.tables.matter (map call_step l.calls)
