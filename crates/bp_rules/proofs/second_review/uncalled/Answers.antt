use Rattle.std.proofs.Common.{sym, ◌∙◌}
use Rattle.bp_rules.proofs.ReviewingLemmas.{call-absent, still-uncalled}
use Rattle.bp_rules.proofs.second_review.uncalled.Goals as goal

pub returns-in-None-clause-after : goal.returns-in-None-clause-after
returns-in-None-clause-after c = still-uncalled c.args.tables.now.matter c.args.doc.0 (sym c.in-None.ensures)

pub returns-in-Some-clause-new : goal.returns-in-Some-clause-new
returns-in-Some-clause-new c = λ same. absurd (let none = c.in-Some.ensures ∙ call-absent c.args.tables.now.matter c.args.doc.0 same in cc)
