use Rattle.std.proofs.Common.{sym}
use Rattle.bp_rules.proofs.ReviewingLemmas.{caller-is}
use Rattle.bp_rules.proofs.decide_calls.decide.Goals as goal

pub decide_by-requires-clause-caller : goal.decide_by-requires-clause-caller
decide_by-requires-clause-caller c = caller-is c.args.tables.now.matter c.args.key.now c.in-Some.caller.now c.know_valid.ensures (sym c.in-Some.ensures)
