use Rattle.std.proofs.Common.{ℕ, List, ap, sym, ◌∙◌, subst}
use Rattle.bp_rows.specs.Changes.{Shows}
use Rattle.bp_rows.specs.Image.{row_of}
use Rattle.bp_rows.proofs.ShownLemmas.{shows_row}
use Rattle.bp_t6.specs.SoFar.{AddedSoFar, HasAdded}
use Rattle.bp_t6.proofs.SoFarLemmas.{line_added, still_writer}
use Rattle.bp_t6.proofs.strip_writer.StripWriter.add_page_row.Goals as goal

pub add-requires-clause-line : goal.add-requires-clause-line
add-requires-clause-line c =
    let page = c.args.page.now in
    let long = c.width-width.ensures.page.grid.across c.args.row c.requires.down ∙ c.requires.wide ∙ ap (λ (w : AddedSoFar). w.width) (sym c.self.view_is) in
    (shows_row (row_of page c.args.row) c.row_changes.new.places.items c.self.inside.lines.width long c.in_ok-row_changes.ensures).rises

pub invariant_of-self-2 : goal.invariant_of-self-2
invariant_of-self-2 c =
    let page = c.args.page.now in
    let line = row_of page c.args.row in
    let long = c.width-width.ensures.page.grid.across c.args.row c.requires.down ∙ c.requires.wide ∙ ap (λ (w : AddedSoFar). w.width) (sym c.self.view_is) in
    let shown = shows_row line c.row_changes.new.places.items c.self.inside.lines.width long c.in_ok-row_changes.ensures in
    still_writer c.self.inside.lines.width c.add.new.self.width c.row_changes.new.places.items c.add.new.self.above.items line c.self.invariant.wide c.in_ok-add.ensures.width c.in_ok-add.ensures.above shown

pub returns-clause-added : goal.returns-clause-added
returns-clause-added c = λ lines has.
    let inside = c.self.inside.lines in
    let page = c.args.page.now in
    let line = row_of page c.args.row in
    let long = c.width-width.ensures.page.grid.across c.args.row c.requires.down ∙ c.requires.wide ∙ ap (λ (w : AddedSoFar). w.width) (sym c.self.view_is) in
    let old : AddedSoFar = record { width = inside.width; bits = inside.out; above = inside.above.items } in
    let new : AddedSoFar = record { width = c.add.new.self.width; bits = c.add.new.self.out; above = c.add.new.self.above.items } in
    let had : HasAdded old lines = subst (λ (w : AddedSoFar). HasAdded w lines) (sym c.self.view_is) has in
    line_added old new lines line had c.in_ok-add.ensures.width long (c.in_ok-add.ensures.above ∙ c.in_ok-row_changes.ensures)
    (λ row over shows shows_over. c.in_ok-add.ensures.coded row over (subst (λ (ps : List ℕ). Shows ps inside.width row) c.in_ok-add.ensures.above shows) shows_over)
