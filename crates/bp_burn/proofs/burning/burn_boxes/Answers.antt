use Rattle.std.proofs.Common.{◌≡◌, [], ◌∷◌, arith, ap, ◌∙◌, refl}
use Rattle.std.proofs.lemmas.List.{take_all}
use Rattle.bp_rows.specs.Burned.{burned}
use Rattle.bp_burn.specs.Ink.{above, inked}
use Rattle.bp_burn.proofs.BoxPartLemmas.{clipped_inked, no_box_above}
use Rattle.bp_burn.proofs.burning.burn_boxes.Goals as goal

pub loop-area-init : goal.loop-area-init
loop-area-init c = no_box_above c.args.page.now c.args.rows c.width-width.ensures.page.grid

pub loop-area-preserved : goal.loop-area-preserved
loop-area-preserved c =
    let p = c.args.page.now in
    c.blacken_box.ensures
    ∙ ap (λ page. burned page (c.clipped.result ∷ [])) c.loop-area.invariant
    ∙ clipped_inked p c.args.rows c.args.boxes.now c.loop-area.area-index _ _ c.clipped.result c.loop-area-test.true refl
    (λ r col across. c.clipped.ensures.pixels r col (rw c.width-width.ensures.value across))

pub blacken_box-requires : goal.blacken_box-requires
blacken_box-requires c =
    let wide : c.loop-area.page.width ≡ c.args.page.now.width = ap (λ p. p.width) c.loop-area.invariant in
    let high : c.loop-area.page.height ≡ c.args.page.now.height = ap (λ p. p.height) c.loop-area.invariant in
    let inside = c.clipped.ensures.inside in
    record {
      across = omega (arith, inside.across, c.width-width.ensures.value, wide);
      down = omega (arith, inside.down, high);
    }

pub returns : goal.returns
returns c =
    c.loop-area.invariant
    ∙ ap (λ boxes. inked c.args.page.now (above c.args.rows boxes)) (take_all c.loop-area.area-index c.args.boxes.now c.loop-area-test.false)
