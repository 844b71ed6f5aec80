use Rattle.std.proofs.Common.{[], ◌∷◌, ap, ◌∙◌, refl}
use Rattle.bp_rows.specs.Burned.{burned, row_part}
use Rattle.bp_burn.proofs.BoxPartLemmas.{no_box_in_row, row_part_inked}
use Rattle.bp_burn.proofs.burning.burn_row.Goals as goal

pub loop-area-init : goal.loop-area-init
loop-area-init c = no_box_in_row c.args.page.now c.args.row c.width-width.ensures.page.grid

pub loop-area-preserved : goal.loop-area-preserved
loop-area-preserved c =
    let p = c.args.page.now in
    let row = c.args.row in
    let some = c.columns_in_row-from in
    c.blacken.ensures
    ∙ ap (λ page. burned page (row_part row some.result.0 some.result.1 ∷ [])) c.loop-area.invariant
    ∙ row_part_inked p row some.result.0 some.result.1 c.as_slice-area-items.result.now c.loop-area.area-index _ _ c.loop-area-test.true refl some.ensures.order
    (λ col across. some.ensures.pixels col (rw c.width-width.ensures.value across))
