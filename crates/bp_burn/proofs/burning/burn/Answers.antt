use Rattle.std.proofs.Common.{ap, ◌∙◌}
use Rattle.bp_burn.specs.Ink.{above, inked, with_white_rows}
use Rattle.bp_burn.proofs.BandLemmas.{burned_made}
use Rattle.bp_burn.proofs.burning.burn.Goals as goal

pub returns : goal.returns
returns c =
    let p = c.args.page.now in
    c.burn_boxes.ensures
    ∙ ap (λ page. inked page (above c.height-height.result c.as_slice.result.now)) c.in_ok-out.ensures
    ∙ ap (λ rows. inked (with_white_rows p 0) (above rows c.as_slice.result.now)) c.height-height.ensures.value
    ∙ ap (λ boxes. inked (with_white_rows p 0) (above p.height boxes)) c.as_slice.ensures
    ∙ burned_made p c.args.boxes.now
