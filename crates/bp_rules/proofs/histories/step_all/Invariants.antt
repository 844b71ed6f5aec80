use Rattle.std.proofs.Common.{take}
use Rattle.bp_rules.specs.Keeping.{StepKeeps}
use Rattle.bp_rules.specs.Running.{Ran, run_state}
use Rattle.bp_rules.proofs.histories.step_all.Given as goal

-- what was asked so far was made and answered
abbrev pub invariant-loop-one : goal.invariant-loop-one
invariant-loop-one g l =
    let before = run_state l.initial.tables.matter (g.K.Keeper.shows l.initial.keeper) l.initial.answers.items in
    let now = run_state l.tables.matter (g.K.Keeper.shows l.keeper) l.answers.items in
    Ran before (take l.one-index l.asked) before.keeper.faults now × StepKeeps before.matter now.matter
