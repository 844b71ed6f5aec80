use Rattle.std.proofs.Common.{List, Bool, sym, ◌∙◌, subst}
use Rattle.bp_t6.specs.SoFar.{HasAdded}
use Rattle.bp_burn.specs.Band.{produced_of}
use Rattle.bp_burn.specs.Covered.{covered}
use Rattle.bp_burn.proofs.MakingLemmas.{rows_out}
use Rattle.bp_burn.proofs.strips.strip_of_rows.Goals as goal

pub returns : goal.returns
returns c =
    let first = c.args.rows in
    let label = c.args.label.now in
    let designation = c.args.designation.now in
    λ p has.
    let wide = has.wide ∙ sym c.width-width.ensures in
    let P : List (List Bool) → Type 0 = λ rows. HasAdded c.add_band.new.writer rows in
    c.finish.ensures.strip (produced_of first.ink p first.stamps label designation) (has.wide ∙ sym (c.in_ok-add_band.ensures.width ∙ c.in_ok-writer.ensures.width))
    (subst P (rows_out first.ink p first.stamps label designation c.width-width.result wide)
    (c.in_ok-add_band.ensures.added (covered first.ink p first.stamps).rows (c.in_ok-writer.ensures.added p has)))
