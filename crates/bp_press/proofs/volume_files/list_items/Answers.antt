use Rattle.std.proofs.Common.{rules, ◌≡◌, ◌∷◌, ◌+◌, length, subst, sym}
use Rattle.std.specs.List.{Contains}
use Rattle.bp_matter.specs.declared.rows.Production.{Production}
use Rattle.bp_press.specs.Contents.{part_of}
use Rattle.bp_press.proofs.FamilyLemmas.{all-first}
use Rattle.bp_press.proofs.ListLemmas.{fit_turn, items_begin, items_turn}
use Rattle.bp_press.proofs.volume_files.list_items.Goals as goal

pub loop-item-init : goal.loop-item-init
loop-item-init g c = items_begin c.args.production.now (g.P.Shows.matter c.args.shown.now) c.as_slice-rest.result.now c.args.list.now.items c.as_slice-rest.ensures c.requires.placed

pub list_item-requires-clause-from : goal.list_item-requires-clause-from
list_item-requires-clause-from g c =
    let whole : c.loop-item.rest.now ≡ c.in-Some.item.now ∷ c.in-Some.others.now = search rules in
    (fit_turn _ _ _ _ _ _ whole c.loop-item.invariant.fit).0.doc

pub list_item-requires-clause-to : goal.list_item-requires-clause-to
list_item-requires-clause-to g c =
    let whole : c.loop-item.rest.now ≡ c.in-Some.item.now ∷ c.in-Some.others.now = search rules in
    (fit_turn _ _ _ _ _ _ whole c.loop-item.invariant.fit).0.there

pub list_item-requires-clause-places : goal.list_item-requires-clause-places
list_item-requires-clause-places g c =
    let whole : c.loop-item.rest.now ≡ c.in-Some.item.now ∷ c.in-Some.others.now = search rules in
    (fit_turn _ _ _ _ _ _ whole c.loop-item.invariant.fit).1.0

pub list_item-requires-clause-sheets : goal.list_item-requires-clause-sheets
list_item-requires-clause-sheets g c =
    let whole : c.loop-item.rest.now ≡ c.in-Some.item.now ∷ c.in-Some.others.now = search rules in
    (fit_turn _ _ _ _ _ _ whole c.loop-item.invariant.fit).0.sheets

pub list_item-requires-clause-there : goal.list_item-requires-clause-there
list_item-requires-clause-there g c =
    let whole : c.loop-item.rest.now ≡ c.in-Some.item.now ∷ c.in-Some.others.now = search rules in
    subst (λ (f : Production). Contains f.items c.in-Some.item.now) (sym c.requires.same) (all-first (Contains c.args.production.now.items) _ _ _ whole c.loop-item.invariant.own)

pub image_count-requires-clause-there : goal.image_count-requires-clause-there
image_count-requires-clause-there g c =
    let whole : c.loop-item.rest.now ≡ c.in-Some.item.now ∷ c.in-Some.others.now = search rules in
    subst (λ (f : Production). Contains f.items c.in-Some.item.now) (sym c.requires.same) (all-first (Contains c.args.production.now.items) _ _ _ whole c.loop-item.invariant.own)

pub image_count-requires-clause-placed : goal.image_count-requires-clause-placed
image_count-requires-clause-placed g c =
    let whole : c.loop-item.rest.now ≡ c.in-Some.item.now ∷ c.in-Some.others.now = search rules in
    (fit_turn _ _ _ _ _ _ whole c.loop-item.invariant.fit).0

pub loop-item-preserved : goal.loop-item-preserved
loop-item-preserved g c =
    let f = c.args.production.now in
    let m = (g.P.Shows.matter c.args.shown.now) in
    let item = c.in-Some.item.now in
    let whole : c.loop-item.rest.now ≡ item ∷ c.in-Some.others.now = search rules in
    let next : c.loop-item.place + c.from-place.result ≡ c.loop-item.place + length (part_of f m item).content.images = search rules in
    items_turn f m f.items c.loop-item.place _ c.loop-item.rest.now item c.in-Some.others.now _ _ _ whole next c.loop-item.invariant
    (c.in_ok-list_item.ensures f (fit_turn _ _ _ _ _ _ whole c.loop-item.invariant.fit).0 (all-first (Contains f.items) _ _ _ whole c.loop-item.invariant.own))
