use Rattle.std.proofs.Common.{[], ◌∷◌, ◌+◌, ap, ◌∙◌}
use Rattle.bp_rows.specs.Burned.{burned, row_part}
use Rattle.bp_rows.proofs.BoxLemmas.{one_more_row, no_rows}
use Rattle.bp_rows.proofs.page.Page.blacken_box.Goals as goal

pub loop-i-init : goal.loop-i-init
loop-i-init c = no_rows c.args.self.now c.args.area.now c.width.ensures.page

pub loop-i-preserved : goal.loop-i-preserved
loop-i-preserved c =
    let area = c.args.area.now in
    c.blacken.ensures
    ∙ ap (λ p. burned p (row_part (area.top + c.loop-i.i) area.left (area.left + area.width) ∷ [])) c.loop-i.invariant
    ∙ one_more_row c.args.self.now area c.loop-i.i
