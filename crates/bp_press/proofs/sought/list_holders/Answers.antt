use Rattle.std.proofs.Common.{rules, ◌≡◌, ◌∷◌, ◌+◌, List, ap, length, subst, sym}
use Rattle.std.proofs.lemmas.List.{nil_from_length}
use Rattle.std.specs.List.{Contains}
use Rattle.bp_matter.specs.declared.rows.Production.{Production}
use Rattle.bp_press.specs.Contents.{part_of}
use Rattle.bp_press.specs.Files.{item_files}
use Rattle.bp_press.specs.Pressing.{placed_at}
use Rattle.bp_press.specs.Sought.{Seeks}
use Rattle.bp_press.specs.declared.volume_files.VolumeFile.{VolumeFile}
use Rattle.bp_press.proofs.FamilyLemmas.{all-first}
use Rattle.bp_press.proofs.ListLemmas.{fit_turn}
use Rattle.bp_press.proofs.SoughtLemmas.{seeks_listed, seeks_passed, sought_from, sought_through, sought_turn}
use Rattle.bp_press.proofs.sought.list_holders.Goals as goal
use Rattle.bp_press.proofs.sought.list_holders.Goals.{else-may_hold, then-may_hold+in_ok-list_item}

pub loop-item-init : goal.loop-item-init
loop-item-init g c = sought_from c.args.production.now (g.P.Shows.matter c.args.shown.now) c.args.path.now c.as_slice-rest.result.now c.args.list.now.items c.as_slice-rest.ensures c.requires.placed

pub list_item-requires-clause-from : goal.list_item-requires-clause-from
list_item-requires-clause-from g c =
    let whole : c.loop-item.rest.now ≡ c.in-Some.item.now ∷ c.in-Some.others.now = search rules in
    (fit_turn _ _ _ _ _ _ whole c.loop-item.invariant.fit).0.doc

pub list_item-requires-clause-to : goal.list_item-requires-clause-to
list_item-requires-clause-to g c =
    let whole : c.loop-item.rest.now ≡ c.in-Some.item.now ∷ c.in-Some.others.now = search rules in
    (fit_turn _ _ _ _ _ _ whole c.loop-item.invariant.fit).0.there

pub list_item-requires-clause-places : goal.list_item-requires-clause-places
list_item-requires-clause-places g c =
    let whole : c.loop-item.rest.now ≡ c.in-Some.item.now ∷ c.in-Some.others.now = search rules in
    (fit_turn _ _ _ _ _ _ whole c.loop-item.invariant.fit).1.0

pub list_item-requires-clause-sheets : goal.list_item-requires-clause-sheets
list_item-requires-clause-sheets g c =
    let whole : c.loop-item.rest.now ≡ c.in-Some.item.now ∷ c.in-Some.others.now = search rules in
    (fit_turn _ _ _ _ _ _ whole c.loop-item.invariant.fit).0.sheets

pub list_item-requires-clause-there : goal.list_item-requires-clause-there
list_item-requires-clause-there g c =
    let whole : c.loop-item.rest.now ≡ c.in-Some.item.now ∷ c.in-Some.others.now = search rules in
    subst (λ (f : Production). Contains f.items c.in-Some.item.now) (sym c.requires.same) (all-first (Contains c.args.production.now.items) _ _ _ whole c.loop-item.invariant.own)

pub image_count-requires-clause-there : goal.image_count-requires-clause-there
image_count-requires-clause-there g c =
    let whole : c.loop-item.rest.now ≡ c.in-Some.item.now ∷ c.in-Some.others.now = search rules in
    subst (λ (f : Production). Contains f.items c.in-Some.item.now) (sym c.requires.same) (all-first (Contains c.args.production.now.items) _ _ _ whole c.loop-item.invariant.own)

pub image_count-requires-clause-placed : goal.image_count-requires-clause-placed
image_count-requires-clause-placed g c =
    let whole : c.loop-item.rest.now ≡ c.in-Some.item.now ∷ c.in-Some.others.now = search rules in
    (fit_turn _ _ _ _ _ _ whole c.loop-item.invariant.fit).0

pub loop-item-preserved : goal.loop-item-preserved
loop-item-preserved g c =
    let f = c.args.production.now in
    let m = (g.P.Shows.matter c.args.shown.now) in
    let item = c.in-Some.item.now in
    let rows = item_files f.request (placed_at f m item c.loop-item.place) in
    let whole : c.loop-item.rest.now ≡ item ∷ c.in-Some.others.now = search rules in
    let fit = (fit_turn _ _ _ _ _ _ whole c.loop-item.invariant.fit).0 in
    let count : c.from-count.result ≡ length (part_of f m item).content.images = search rules in
    let next : c.loop-item.place + c.from-count.result ≡ c.loop-item.place + length (part_of f m item).content.images = ap (λ n. c.loop-item.place + n) count in
    let own = all-first (Contains f.items) _ _ _ whole c.loop-item.invariant.own in
    let path = c.args.path.now in
    let before = c.loop-item.list.items in
    let sought : Seeks f m path before rows c.if-may_hold.list.items =
    elim c.if-may_hold.branch [
      | then-may_hold+in_ok-list_item w ↦
          subst (λ (l : List VolumeFile). Seeks f m path before rows l) (sym (ap (λ v. v.items) w.list-is))
          (seeks_listed f m path _ _ _ (w.in_ok-list_item.ensures f fit own))
      | else-may_hold w ↦
          subst (λ (l : List VolumeFile). Seeks f m path before rows l) (sym (ap (λ v. v.items) w.list-is))
          (seeks_passed f m item c.loop-item.place path before c.from-count.result c.label_number-number.result fit count c.label_number-number.ensures
          (c.may_hold.ensures w.if-may_hold.false))
    ] in
    sought_turn f m path c.loop-item.place _ c.loop-item.rest.now item c.in-Some.others.now _ _ _ whole next c.loop-item.invariant sought

pub returns : goal.returns
returns g c =
    sought_through c.args.production.now (g.P.Shows.matter c.args.shown.now) c.args.path.now c.loop-item.place c.loop-item.rest.now _ _ (nil_from_length _ c.in_default.ensures.cases) c.loop-item.invariant
