use Rattle.std.proofs.Common.{◌+◌, ◌-◌, min, ap, ◌∙◌}
use Rattle.bp_burn.proofs.FigureLemmas.{bit_blackened}
use Rattle.bp_burn.proofs.drawing.draw_bit.Goals as goal

pub returns : goal.returns
returns c =
    let at = c.args.at in
    let hidden = c.args.hidden in
    c.blacken_box.ensures
    ∙ bit_blackened c.args.page.now c.args.top at hidden c.page_column-from.result c.page_column-to.result
    (c.page_column-from.ensures ∙ ap (min (at - hidden)) c.width-width.ensures.value)
    (c.page_column-to.ensures ∙ ap (min (at + 3 - hidden)) c.width-width.ensures.value)
