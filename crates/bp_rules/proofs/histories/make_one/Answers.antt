use Rattle.std.proofs.Common.{sym, subst}
use Rattle.std.specs.Prelude.{Result}
use Rattle.bp_matter.specs.Matter.{Matter}
use Rattle.bp_keep.specs.Keeper.{KeeperView}
use Rattle.bp_rules.specs.Running.{AnswersOne}
use Rattle.bp_rules.specs.declared.histories.RunAnswer.{RunAnswer}
use Rattle.bp_rules.specs.declared.histories.RunStep.{RunStep}
use Rattle.bp_rules.specs.declared.histories.RunStep.TheVariants as asks
use Rattle.bp_rules.specs.declared.refusals.MatterRefusal.{MatterRefusal}
use Rattle.bp_rules.proofs.StepLemmas.{call-answered, import-answered}
use Rattle.bp_rules.proofs.histories.make_one.Goals as goal

pub returns-in-Import-clause-made : goal.returns-in-Import-clause-made
returns-in-Import-clause-made g c =
    let m : Matter = c.args.tables.now.matter in
    let m' : Matter = c.step_import.new.tables.matter in
    let keeper : KeeperView = g.K.Keeper.shows c.args.keeper.now in
    let keeper' : KeeperView = g.K.Keeper.shows c.step_import.new.keeper in
    let b = c.in-Import.batch in
    subst (λ (asked : RunStep). AnswersOne m asked keeper c.counted_answer.result m' keeper') (sym c.in-Import.is)
    (subst (λ (r : Result RunAnswer MatterRefusal). AnswersOne m (asks.Import b) keeper r m' keeper') (sym c.counted_answer.ensures) (import-answered m b keeper c.step_import.result m' keeper' c.step_import.ensures.made))

pub returns-in-Call-clause-made : goal.returns-in-Call-clause-made
returns-in-Call-clause-made g c =
    let m : Matter = c.args.tables.now.matter in
    let m' : Matter = c.step.new.tables.matter in
    let keeper : KeeperView = g.K.Keeper.shows c.args.keeper.now in
    let keeper' : KeeperView = g.K.Keeper.shows c.step.new.keeper in
    let key = c.in-Call.key in
    let call = c.in-Call.call in
    subst (λ (asked : RunStep). AnswersOne m asked keeper c.reply_answer.result m' keeper') (sym c.in-Call.is)
    (subst (λ (r : Result RunAnswer MatterRefusal). AnswersOne m (asks.Call key call) keeper r m' keeper') (sym c.reply_answer.ensures) (call-answered m key call keeper c.step.result m' keeper' c.step.ensures.made))
