use Rattle.std.proofs.Common.{rules, ◌≡◌, length}
use Rattle.bp_rules.proofs.DocLemmas.{parents-lent}
use Rattle.bp_rules.proofs.import_rows.import_rows.Goals as goal

pub doc_rows-requires-clause-parents : goal.doc_rows-requires-clause-parents
doc_rows-requires-clause-parents c =
    let number = length c.args.tables.now.matter.docs in
    let lent : c.as_slice-docs.result.now ≡ c.args.batch.now.docs = search rules in
    parents-lent _ number c.args.batch.now.docs _ (search rules) lent c.within_law.ensures.parents
