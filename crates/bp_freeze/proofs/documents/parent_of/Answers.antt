use Rattle.std.proofs.Common.{arith}
use Rattle.bp_freeze.proofs.FamilyLemmas.{parent-small}
use Rattle.bp_freeze.proofs.documents.parent_of.Goals as goal

pub returns-clause-small : goal.returns-clause-small
returns-clause-small c =
    omega (arith, c.parent_kept.ensures, parent-small c.args.tables.now.matter c.know_valid.ensures c.args.doc.0 c.requires.from c.requires.to)
