use Rattle.std.proofs.Common.{refl}
use Rattle.bp_rules.proofs.ReviewingLemmas.{again-held, held-stands}
use Rattle.bp_rules.proofs.held_fields.held_put.Goals as goal

pub returns-then-stands-clause-after : goal.returns-then-stands-clause-after
returns-then-stands-clause-after c = again-held c.args.tables.now.matter c.args.row c.args.row c.know_valid.ensures (c.stands.ensures.fact c.if-stands.true) refl

pub returns-clause-new : goal.returns-clause-new
returns-clause-new c = λ same. absurd (let stands = c.stands.ensures.back (held-stands c.args.tables.now.matter c.args.row same) in cc)
