use Rattle.std.proofs.Common.{refl}
use Rattle.bp_rules.proofs.ReviewingLemmas.{again-call, call-stands}
use Rattle.bp_rules.proofs.document_calls.call_put.Goals as goal

pub returns-then-stands-clause-after : goal.returns-then-stands-clause-after
returns-then-stands-clause-after c = again-call c.args.tables.now.matter c.args.row c.args.row c.know_valid.ensures (c.stands.ensures.fact c.if-stands.true) refl

pub returns-clause-new : goal.returns-clause-new
returns-clause-new c = λ same. absurd (let stands = c.stands.ensures.back (call-stands c.args.tables.now.matter c.args.row same) in cc)
