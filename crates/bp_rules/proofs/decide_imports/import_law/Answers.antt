use Rattle.bp_rules.proofs.ImportLemmas.{import-made}
use Rattle.bp_rules.proofs.decide_imports.import_law.Goals as goal

pub returns-clause-made : goal.returns-clause-made
returns-clause-made c =
    (import-made c.args.tables.now.matter c.args.batch.now c.order_law.ensures c.know_valid.ensures c.know_batch.ensures c.requires.room c.requires.new c.name_law.ensures).0

pub returns-clause-written : goal.returns-clause-written
returns-clause-written c =
    (import-made c.args.tables.now.matter c.args.batch.now c.order_law.ensures c.know_valid.ensures c.know_batch.ensures c.requires.room c.requires.new c.name_law.ensures).1
