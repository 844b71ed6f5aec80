use Rattle.bp_freeze.proofs.FreezeLemmas.{alike-answers, kept-answers, new-answers}
use Rattle.bp_freeze.proofs.freezing.freeze.Goals as goal

pub returns-in-Some-clause-answer : goal.returns-in-Some-clause-answer
returns-in-Some-clause-answer c = kept-answers c.args.tables.now.matter c.args.request.now c.in-Some.kept.now _ c.in-Some.ensures c.repeat.ensures

pub returns-in-Some-clause-alike : goal.returns-in-Some-clause-alike
returns-in-Some-clause-alike c = λ other alike.
    alike-answers c.args.tables.now.matter other c.args.request.now _ alike
    (kept-answers c.args.tables.now.matter c.args.request.now c.in-Some.kept.now _ c.in-Some.ensures c.repeat.ensures)

pub returns-in-None-clause-answer : goal.returns-in-None-clause-answer
returns-in-None-clause-answer c = new-answers c.args.tables.now.matter c.args.request.now _ c.in-None.ensures c.freeze_new.ensures

pub returns-in-None-clause-alike : goal.returns-in-None-clause-alike
returns-in-None-clause-alike c = λ other alike.
    alike-answers c.args.tables.now.matter other c.args.request.now _ alike
    (new-answers c.args.tables.now.matter c.args.request.now _ c.in-None.ensures c.freeze_new.ensures)
