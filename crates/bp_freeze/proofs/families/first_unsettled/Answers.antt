use Rattle.std.proofs.Common.{◌∙◌, sym, arith}
use Rattle.bp_freeze.specs.Selecting.{is_unsettled}
use Rattle.bp_freeze.proofs.RangeLemmas.{finds-here, finds-later, finds-none}
use Rattle.bp_freeze.proofs.families.first_unsettled.Goals as goal

pub returns-then-is_unsettled : goal.returns-then-is_unsettled
returns-then-is_unsettled c =
    finds-here c.args.tables.now.matter is_unsettled c.loop-number.number c.args.end _ (omega arith) c.loop-number.invariant (sym c.is_unsettled.ensures ∙ c.if-is_unsettled.true)

pub loop-number-preserved : goal.loop-number-preserved
loop-number-preserved c =
    finds-later c.args.tables.now.matter is_unsettled c.loop-number.number c.args.end _ (omega arith) c.loop-number.invariant (sym c.is_unsettled.ensures ∙ c.if-is_unsettled.false)

pub returns : goal.returns
returns c = finds-none c.args.tables.now.matter is_unsettled c.loop-number.number c.args.end _ (omega arith) c.loop-number.invariant
