use Rattle.std.proofs.Common.{rules, ◌≡◌, ◌∷◌, ◌+◌, length, subst, sym}
use Rattle.std.specs.List.{Contains}
use Rattle.bp_matter.specs.declared.rows.Production.{Production}
use Rattle.bp_press.specs.Contents.{part_of}
use Rattle.bp_press.proofs.FamilyLemmas.{all-first}
use Rattle.bp_press.proofs.GatherLemmas.{first_placed, lines_init, lines_turn}
use Rattle.bp_press.proofs.load_files.opt_list.Goals as goal

pub loop-item-init : goal.loop-item-init
loop-item-init g c =
    lines_init c.args.production.now (g.P.Shows.matter c.args.shown.now) c.args.production.now.items c.as_slice-rest.result.now c.new-lines.result.items
    c.as_slice-rest.ensures c.new-lines.ensures.items c.requires.placed

pub add_opt_lines-requires-clause-there : goal.add_opt_lines-requires-clause-there
add_opt_lines-requires-clause-there g c =
    let whole : c.loop-item.rest.now ≡ c.in-Some.item.now ∷ c.in-Some.others.now = search rules in
    subst (λ (f : Production). Contains f.items c.in-Some.item.now) (sym c.requires.same) (all-first (Contains c.args.production.now.items) _ _ _ whole c.loop-item.invariant.own)

pub add_opt_lines-requires-clause-placed : goal.add_opt_lines-requires-clause-placed
add_opt_lines-requires-clause-placed g c =
    let whole : c.loop-item.rest.now ≡ c.in-Some.item.now ∷ c.in-Some.others.now = search rules in
    (first_placed c.args.production.now (g.P.Shows.matter c.args.shown.now) c.loop-item.place _ _ _ whole c.loop-item.invariant.fit).0

pub add_opt_lines-requires-clause-places : goal.add_opt_lines-requires-clause-places
add_opt_lines-requires-clause-places g c =
    let whole : c.loop-item.rest.now ≡ c.in-Some.item.now ∷ c.in-Some.others.now = search rules in
    (first_placed c.args.production.now (g.P.Shows.matter c.args.shown.now) c.loop-item.place _ _ _ whole c.loop-item.invariant.fit).1

pub loop-item-preserved : goal.loop-item-preserved
loop-item-preserved g c =
    let f = c.args.production.now in
    let m = g.P.Shows.matter c.args.shown.now in
    let whole : c.loop-item.rest.now ≡ c.in-Some.item.now ∷ c.in-Some.others.now = search rules in
    let next : c.loop-item.place + c.from-place.result ≡ c.loop-item.place + length (part_of f m c.in-Some.item.now).content.images = search rules in
    lines_turn f m f.items c.loop-item.place _ c.loop-item.rest.now c.in-Some.item.now c.in-Some.others.now c.loop-item.lines.items _ whole next c.loop-item.invariant c.in_ok-count.ensures.lines
