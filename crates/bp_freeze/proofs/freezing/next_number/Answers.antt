use Rattle.bp_freeze.proofs.RuleLemmas.{next-fits}
use Rattle.bp_freeze.proofs.freezing.next_number.Goals as goal

pub returns-in-Some-clause-from : goal.returns-in-Some-clause-from
returns-in-Some-clause-from c =
    (next-fits c.args.tables.now.matter.prefixes c.args.text.now c.in-Some.row.now c.know_valid.ensures.prefixes.fit c.in-Some.ensures).from

pub returns-in-Some-clause-to : goal.returns-in-Some-clause-to
returns-in-Some-clause-to c =
    (next-fits c.args.tables.now.matter.prefixes c.args.text.now c.in-Some.row.now c.know_valid.ensures.prefixes.fit c.in-Some.ensures).to
