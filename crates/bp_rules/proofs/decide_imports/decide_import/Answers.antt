use Rattle.std.proofs.Common.{sym, ap, ◌∙◌}
use Rattle.bp_rules.specs.declared.changes.Edit.TheVariants.{Import}
use Rattle.bp_rules.proofs.DecidingLemmas.{refuses, repeats, takes}
use Rattle.bp_rules.proofs.decide_imports.decide_import.Goals as goal

pub returns-in-Some : goal.returns-in-Some
returns-in-Some c = repeats c.args.tables.now.matter c.args.batch.now c.in-Some.row.now c.repeated.result c.know_valid.ensures (sym c.in-Some.ensures) c.repeated.ensures

pub returns-in-Some-limit_passed : goal.returns-in-Some-limit_passed
returns-in-Some-limit_passed c = refuses c.args.tables.now.matter c.args.batch.now c.in-Some-limit_passed.rule (sym c.in_default.ensures) (sym c.in-Some-limit_passed.ensures)

pub returns : goal.returns
returns c =
    takes c.args.tables.now.matter c.args.batch.now c.in_ok-change.change c.documents_of_batch.result c.pages_of_batch.result (sym c.in_default.ensures) (sym c.in_default-limit_passed.ensures) c.import_law.ensures.made
    (c.in_ok-change.ensures ∙ ap Import c.in_ok-rows.ensures) c.documents_of_batch.ensures c.pages_of_batch.ensures
