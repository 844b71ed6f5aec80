use Rattle.bp_rules.proofs.KeepingLemmas.{keeps-changed, keeps-itself, keeps-same}
use Rattle.bp_rules.proofs.steps.make.Goals as goal

pub returns-then-is_empty-clause-kept : goal.returns-then-is_empty-clause-kept
returns-then-is_empty-clause-kept g c = keeps-itself c.args.tables.now.matter

pub returns-then-is_err-clause-kept : goal.returns-then-is_err-clause-kept
returns-then-is_err-clause-kept g c = keeps-same c.args.tables.now.matter c.make_room.new.tables.matter c.make_room.ensures.same

pub returns-in-Err-clause-kept : goal.returns-in-Err-clause-kept
returns-in-Err-clause-kept g c = keeps-same c.args.tables.now.matter c.make_room.new.tables.matter c.make_room.ensures.same

pub returns-clause-kept : goal.returns-clause-kept
returns-clause-kept g c = keeps-changed c.args.tables.now.matter c.make_room.new.tables.matter c.apply.new.tables.matter c.args.change c.make_room.ensures.same c.apply.ensures
