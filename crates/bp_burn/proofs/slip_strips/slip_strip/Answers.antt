use Rattle.std.proofs.Common.{ℕ, List, Bool, [], ◌++◌, ◌∙◌, sym, subst}
use Rattle.bp_t6.specs.SoFar.{HasAdded}
use Rattle.bp_burn.specs.Band.{slip_of}
use Rattle.bp_burn.specs.Strips.{slip_text_rows, white_rows}
use Rattle.bp_burn.proofs.SheetLemmas.{slip_rows}
use Rattle.bp_burn.proofs.slip_strips.slip_strip.Goals as goal

pub returns : goal.returns
returns c =
    let basis = c.args.basis in
    let label = c.args.label.now in
    let designation = c.args.designation.now in
    let above = white_rows 1700 1000 in
    let text = slip_text_rows basis in
    let begun = c.in_ok-writer.ensures.width in
    let written = c.in_ok-add_slip_text.ensures.width ∙ c.in_ok-add_white_rows.ensures.width ∙ begun in
    let first = subst (λ (w : ℕ). HasAdded c.add_white_rows.new.writer (white_rows w 1000)) begun
    (c.in_ok-add_white_rows.ensures.added [] c.in_ok-writer.ensures.none) in
    let second = c.in_ok-add_slip_text.ensures.added above first in
    let third = subst (λ (w : ℕ). HasAdded c.add_white_rows-2.new.writer ((above ++ text) ++ white_rows w 1179)) written
    (c.in_ok-add_white_rows-2.ensures.added (above ++ text) second) in
    let last = c.in_ok-add_band.ensures.added ((above ++ text) ++ white_rows 1700 1179) third in
    let wide = c.in_ok-add_band.ensures.width ∙ c.in_ok-add_white_rows-2.ensures.width ∙ written in
    let P : List (List Bool) → Type 0 = λ rows. HasAdded c.add_band.new.writer rows in
    c.finish.ensures.strip (slip_of basis label designation) (sym wide) (subst P (slip_rows basis label designation) last)
