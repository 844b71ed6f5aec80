use Rattle.std.proofs.Common.{false, [], ◌∷◌, ◌++◌, ap, sym, ◌∙◌}
use Rattle.bp_rows.specs.Image.{row_of}
use Rattle.bp_rows.specs.Changes.{changes_of}
use Rattle.bp_rows.specs.Words.{pixels_in_bytes}
use Rattle.bp_rows.proofs.FindLemmas.{packed_changes}
use Rattle.bp_rows.proofs.page.Page.row_changes.Goals as goal

pub returns : goal.returns
returns c =
    let row = row_of c.args.self.now c.args.row in
    c.drop_end.ensures row (c.row_strip.ensures.wide ∙ sym c.width.ensures.value)
    (c.in_ok-find_changes.ensures ∙ ap (λ bs. changes_of (pixels_in_bytes bs ++ false ∷ [])) c.row_strip.ensures.packed ∙ packed_changes row)
