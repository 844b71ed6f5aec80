use Rattle.bp_rules.specs.Running.{RunState, run_state}
use Rattle.bp_rules.proofs.KeepingLemmas.{keeps-itself, keeps-then}
use Rattle.bp_rules.proofs.RunningLemmas.{ran-next, ran-none, stopped-next}
use Rattle.bp_rules.proofs.histories.step_all.Goals as goal

pub loop-one-init : goal.loop-one-init
loop-one-init g c =
    let m = c.args.tables.now.matter in
    (ran-none (run_state m (g.K.Keeper.shows c.args.keeper.now) c.args.answers.now.items), keeps-itself m)

pub returns-in-Err-clause-run : goal.returns-in-Err-clause-run
returns-in-Err-clause-run g c =
    let before : RunState = run_state c.args.tables.now.matter (g.K.Keeper.shows c.args.keeper.now) c.args.answers.now.items in
    let so_far : RunState = run_state c.loop-one.tables.matter (g.K.Keeper.shows c.loop-one.keeper) c.loop-one.answers.items in
    let now : RunState = run_state c.answer_next.new.tables.matter (g.K.Keeper.shows c.answer_next.new.keeper) c.answer_next.new.answers.items in
    stopped-next before so_far now c.loop-one.one-index c.args.asked.now c.one-item.result c.in-Err.refusal c.loop-one-test.true c.one-item.is c.loop-one.invariant.0 c.in-Err.ensures.run

pub returns-in-Err-clause-kept : goal.returns-in-Err-clause-kept
returns-in-Err-clause-kept g c = keeps-then c.args.tables.now.matter c.loop-one.tables.matter c.answer_next.new.tables.matter c.loop-one.invariant.1 c.in-Err.ensures.kept

pub loop-one-preserved : goal.loop-one-preserved
loop-one-preserved g c =
    let before : RunState = run_state c.args.tables.now.matter (g.K.Keeper.shows c.args.keeper.now) c.args.answers.now.items in
    let so_far : RunState = run_state c.loop-one.tables.matter (g.K.Keeper.shows c.loop-one.keeper) c.loop-one.answers.items in
    let now : RunState = run_state c.answer_next.new.tables.matter (g.K.Keeper.shows c.answer_next.new.keeper) c.answer_next.new.answers.items in (
      ran-next before so_far now c.loop-one.one-index c.args.asked.now c.one-item.result c.loop-one-test.true c.one-item.is c.loop-one.invariant.0 c.in-Ok.ensures.run,
      keeps-then c.args.tables.now.matter c.loop-one.tables.matter c.answer_next.new.tables.matter c.loop-one.invariant.1 c.in-Ok.ensures.kept,
    )
