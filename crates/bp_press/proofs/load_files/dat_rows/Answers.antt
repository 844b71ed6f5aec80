use Rattle.std.proofs.Common.{rules, ◌≡◌, ◌∷◌, ◌+◌, ◌-◌, length, subst, sym}
use Rattle.std.specs.List.{Contains}
use Rattle.bp_matter.specs.declared.rows.Production.{Production}
use Rattle.bp_press.specs.Contents.{part_of}
use Rattle.bp_press.specs.Needs.{CanBeListed}
use Rattle.bp_press.proofs.FamilyLemmas.{all-first}
use Rattle.bp_press.proofs.GatherLemmas.{first_placed, row_added, rows_init, rows_turn}
use Rattle.bp_press.proofs.PlacedLemmas.{label_small}
use Rattle.bp_press.proofs.load_files.dat_rows.Goals as goal

pub loop-item-init : goal.loop-item-init
loop-item-init g c =
    rows_init c.args.production.now (g.P.Shows.matter c.args.shown.now) (length c.args.firsts.now - 1) c.as_slice-rest.result.now c.new-rows.result.items
    c.as_slice-rest.ensures c.new-rows.ensures.items c.requires.pressed.placed c.requires.pressed.listed c.requires.families

pub dat_row-requires-clause-listed : goal.dat_row-requires-clause-listed
dat_row-requires-clause-listed g c =
    let whole : c.loop-item.rest.now ≡ c.in-Some.item.now ∷ c.in-Some.others.now = search rules in
    all-first (CanBeListed c.args.production.now) _ _ _ whole c.loop-item.invariant.listed

pub dat_row-requires-clause-there : goal.dat_row-requires-clause-there
dat_row-requires-clause-there g c =
    let whole : c.loop-item.rest.now ≡ c.in-Some.item.now ∷ c.in-Some.others.now = search rules in
    subst (λ (f : Production). Contains f.items c.in-Some.item.now) (sym c.requires.same) (all-first (Contains c.args.production.now.items) _ _ _ whole c.loop-item.invariant.own)

pub dat_row-requires-clause-good : goal.dat_row-requires-clause-good
dat_row-requires-clause-good g c =
    let whole : c.loop-item.rest.now ≡ c.in-Some.item.now ∷ c.in-Some.others.now = search rules in
    (first_placed c.args.production.now (g.P.Shows.matter c.args.shown.now) c.loop-item.place _ _ _ whole c.loop-item.invariant.fit).0.labels.prefix

pub dat_row-requires-clause-last : goal.dat_row-requires-clause-last
dat_row-requires-clause-last g c =
    let whole : c.loop-item.rest.now ≡ c.in-Some.item.now ∷ c.in-Some.others.now = search rules in
    let prefix = c.args.production.now.request.prefix in
    label_small prefix.text prefix.width c.in-Some.item.now.span.last (first_placed c.args.production.now (g.P.Shows.matter c.args.shown.now) c.loop-item.place _ _ _ whole c.loop-item.invariant.fit).0.labels.prefix
    (all-first (CanBeListed c.args.production.now) _ _ _ whole c.loop-item.invariant.listed).last.to

pub image_count-requires-clause-there : goal.image_count-requires-clause-there
image_count-requires-clause-there g c =
    let whole : c.loop-item.rest.now ≡ c.in-Some.item.now ∷ c.in-Some.others.now = search rules in
    subst (λ (f : Production). Contains f.items c.in-Some.item.now) (sym c.requires.same) (all-first (Contains c.args.production.now.items) _ _ _ whole c.loop-item.invariant.own)

pub image_count-requires-clause-placed : goal.image_count-requires-clause-placed
image_count-requires-clause-placed g c =
    let whole : c.loop-item.rest.now ≡ c.in-Some.item.now ∷ c.in-Some.others.now = search rules in
    (first_placed c.args.production.now (g.P.Shows.matter c.args.shown.now) c.loop-item.place _ _ _ whole c.loop-item.invariant.fit).0

pub loop-item-preserved : goal.loop-item-preserved
loop-item-preserved g c =
    let whole : c.loop-item.rest.now ≡ c.in-Some.item.now ∷ c.in-Some.others.now = search rules in
    let next : c.loop-item.place + c.from.result ≡ c.loop-item.place + length (part_of c.args.production.now (g.P.Shows.matter c.args.shown.now) c.in-Some.item.now).content.images = search rules in
    rows_turn c.args.production.now (g.P.Shows.matter c.args.shown.now) (length c.args.firsts.now - 1) c.loop-item.place _ c.loop-item.rest.now c.in-Some.item.now c.in-Some.others.now c.loop-item.rows.items _ whole next c.loop-item.invariant
    (row_added c.loop-item.rows.items _ _ _ c.in_ok-dat_row.ensures c.in_ok-push.ensures.items)
