use Rattle.std.proofs.Common.{ap, ◌∙◌}
use Rattle.bp_burn.specs.Ink.{above, inked}
use Rattle.bp_burn.proofs.BandLemmas.{boxes_inked}
use Rattle.bp_burn.proofs.burning.burn_in_place.Goals as goal

pub returns : goal.returns
returns c =
    c.burn_boxes.ensures
    ∙ ap (λ rows. inked c.args.page.now (above rows c.args.boxes.now)) c.height-height.ensures.value
    ∙ boxes_inked c.args.page.now c.args.boxes.now
