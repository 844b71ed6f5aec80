use Rattle.std.proofs.Common.{ap, ◌++◌, ◌∷◌, [], List, ◌∙◌}
use Rattle.bp_rules.specs.declared.histories.RunAnswer.{RunAnswer}
use Rattle.bp_rules.specs.declared.refusals.MatterRefusal.TheVariants.{OutOfMemory}
use Rattle.bp_rules.proofs.KeepingLemmas.{keeps-itself}
use Rattle.bp_rules.proofs.RunningLemmas.{one-ran, one-stopped, stays-itself}
use Rattle.bp_rules.proofs.histories.answer_next.Goals as goal

pub returns-then-is_err-clause-run : goal.returns-then-is_err-clause-run
returns-then-is_err-clause-run g c =
    let m = c.args.tables.now.matter in
    let keeper = g.K.Keeper.shows c.args.keeper.now in
    one-stopped m c.args.asked.now keeper c.args.answers.now.items c.reserve.new.self.items OutOfMemory m keeper c.reserve.ensures.items tt (stays-itself m keeper)

pub returns-then-is_err-clause-kept : goal.returns-then-is_err-clause-kept
returns-then-is_err-clause-kept g c = keeps-itself c.args.tables.now.matter

pub returns-in-Err-clause-run : goal.returns-in-Err-clause-run
returns-in-Err-clause-run g c =
    one-stopped c.args.tables.now.matter c.args.asked.now (g.K.Keeper.shows c.args.keeper.now) c.args.answers.now.items c.reserve.new.self.items c.in-Err.refusal c.make_one.new.tables.matter (g.K.Keeper.shows c.make_one.new.keeper)
    c.reserve.ensures.items c.in-Err.ensures.made.0 c.in-Err.ensures.made.1

pub returns-clause-run : goal.returns-clause-run
returns-clause-run g c =
    one-ran c.args.tables.now.matter c.args.asked.now (g.K.Keeper.shows c.args.keeper.now) c.args.answers.now.items c.push_reserved.new.self.items c.in-Ok.answer c.make_one.new.tables.matter (g.K.Keeper.shows c.make_one.new.keeper)
    (c.push_reserved.ensures.items ∙ ap (λ (l : List RunAnswer). l ++ c.in-Ok.answer ∷ []) c.reserve.ensures.items) c.in-Ok.ensures.made
