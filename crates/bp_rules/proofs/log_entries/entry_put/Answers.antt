use Rattle.std.proofs.Common.{refl}
use Rattle.bp_rules.proofs.ReviewingLemmas.{again-entry, entry-stands}
use Rattle.bp_rules.proofs.log_entries.entry_put.Goals as goal

pub returns-then-stands-clause-after : goal.returns-then-stands-clause-after
returns-then-stands-clause-after c = again-entry c.args.tables.now.matter c.args.row c.args.row c.know_valid.ensures (c.stands.ensures.fact c.if-stands.true) refl

pub returns-clause-new : goal.returns-clause-new
returns-clause-new c = λ same. absurd (let stands = c.stands.ensures.back (entry-stands c.args.tables.now.matter c.args.row same) in cc)
