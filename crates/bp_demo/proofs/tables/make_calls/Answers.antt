use Rattle.std.proofs.Common.{map}
use Rattle.bp_rules.specs.Running.{run_of}
use Rattle.bp_demo.specs.Demo.{call_step}
use Rattle.bp_demo.proofs.TableLemmas.{all_called, more_called}
use Rattle.bp_demo.proofs.tables.make_calls.Goals as goal

pub loop-asked-preserved : goal.loop-asked-preserved
loop-asked-preserved c =
    let calls = c.args.calls.now in
    more_called (run_of c.args.tables.now.matter (map call_step calls)) c.loop-asked.tables.matter c.make_call.new.tables.matter c.loop-asked.asked-index calls c.asked-item.result
    c.loop-asked-test.true c.asked-item.is c.in_ok-make_call.ensures c.loop-asked.invariant

pub returns : goal.returns
returns c =
    let calls = c.args.calls.now in
    all_called (run_of c.args.tables.now.matter (map call_step calls)) c.loop-asked.tables.matter c.loop-asked.asked-index calls c.loop-asked-test.false c.loop-asked.invariant
