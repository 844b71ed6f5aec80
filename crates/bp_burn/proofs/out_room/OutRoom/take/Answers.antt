use Rattle.std.proofs.Common.{◌∷◌, [], sym, ap, ◌∙◌}
use Rattle.bp_rows.specs.Image.{Image}
use Rattle.bp_burn.proofs.MakingLemmas.{line_sides}
use Rattle.bp_burn.proofs.out_room.OutRoom.take.Goals as goal

pub white_page-requires : goal.white_page-requires
white_page-requires c = line_sides c.args.width c.requires.some c.requires.wide

pub invariant_of-result : goal.invariant_of-result
invariant_of-result c =
    let same = sym c.in_ok-rows.ensures in
    record {
      wide = ap (λ (i : Image). i.width) c.in_ok-line.ensures ∙ same;
      high = ap (λ (i : Image). i.height) c.in_ok-line.ensures;
      blank = c.in_ok-white.ensures ∙ ap (λ w. w ∷ []) same;
    }
