use Rattle.std.proofs.lemmas.List.Elements.{All-nil}
use Rattle.bp_press.specs.Needs.{IsInFamily}
use Rattle.bp_press.proofs.FamilyLemmas.{families_all, families_more}
use Rattle.bp_press.proofs.families.last_parent.Goals as goal

pub loop-item-init : goal.loop-item-init
loop-item-init c = All-nil (IsInFamily 0)

pub loop-item-preserved : goal.loop-item-preserved
loop-item-preserved c =
    families_more c.args.items.now c.loop-item.item-index c.loop-item.last _ c.item-item.result c.loop-item-test.true c.item-item.is c.larger-last.ensures.one c.larger-last.ensures.other c.loop-item.invariant

pub returns-clause-families : goal.returns-clause-families
returns-clause-families c = families_all c.args.items.now c.loop-item.item-index _ c.loop-item-test.false c.loop-item.invariant
