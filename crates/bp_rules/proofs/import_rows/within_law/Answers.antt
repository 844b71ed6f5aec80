use Rattle.std.proofs.Common.{length}
use Rattle.bp_rules.proofs.ImportLemmas.{parents-within, within-limits}
use Rattle.bp_rules.proofs.import_rows.within_law.Goals as goal

pub returns-clause-within : goal.returns-clause-within
returns-clause-within c = within-limits c.args.tables.now.matter c.args.batch.now c.requires

pub returns-clause-parents : goal.returns-clause-parents
returns-clause-parents c =
    let m = c.args.tables.now.matter in
    let b = c.args.batch.now in
    parents-within (length m.docs) b.docs c.know_batch.ensures.families (within-limits m b c.requires).documents
