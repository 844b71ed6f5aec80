use Rattle.std.proofs.Common.{rules, arith, ◌≡◌, ◌<◌, ◌∷◌, length}
use Rattle.bp_press.specs.Needs.{IsInFamily}
use Rattle.bp_press.proofs.FamilyLemmas.{all-others, all-first, last_done, last_step}
use Rattle.bp_press.proofs.families.last_numbers.Goals as goal

pub loop-item-preserved : goal.loop-item-preserved
loop-item-preserved c =
    let whole : c.loop-item.rest.now ≡ c.in-Some.item.now ∷ c.in-Some.others.now = search rules in
    let here = all-first (IsInFamily c.args.documents) _ _ _ whole c.loop-item.invariant.within in
    let room : c.in-Some.item.now.parent.0 < length c.loop-item.numbers.items = omega (arith, here, c.loop-item.invariant.many, c.loop-item.numbers.ok.0) in
    record {
      many = c.loop-item.invariant.many;
      within = all-others (IsInFamily c.args.documents) _ _ _ whole c.loop-item.invariant.within;
      tell = λ p l. last_step p c.loop-item.numbers.items c.loop-item.rest.now c.in-Some.others.now c.args.items.now c.in-Some.item.now whole room (c.loop-item.invariant.tell p l);
    }

pub returns-clause-tell : goal.returns-clause-tell
returns-clause-tell c = λ p l. last_done _ p c.loop-item.rest.now c.args.items.now (search rules) (c.loop-item.invariant.tell p l)
