use Rattle.std.proofs.Common.{ℕ, List, sym, ◌∙◌, subst}
use Rattle.bp_rows.specs.Changes.{Shows}
use Rattle.bp_rows.proofs.ShownLemmas.{shows_row}
use Rattle.bp_t6.specs.SoFar.{AddedSoFar, HasAdded}
use Rattle.bp_t6.proofs.SoFarLemmas.{line_added, still_writer}
use Rattle.bp_t6.proofs.strip_writer.StripWriter.add_places.Goals as goal

pub copy_places-requires : goal.copy_places-requires
copy_places-requires c =
    let shows = subst (λ (w : AddedSoFar). Shows c.args.places.now w.width c.requires.0) (sym c.self.view_is) c.requires.1 in
    shows.rises

pub add-requires-clause-line : goal.add-requires-clause-line
add-requires-clause-line c =
    let shows = subst (λ (w : AddedSoFar). Shows c.args.places.now w.width c.requires.0) (sym c.self.view_is) c.requires.1 in
    (shows_row c.requires.0 c.copy_places.new.changes.items c.self.inside.lines.width shows.long (c.in_ok-copy_places.ensures c.requires.0 shows)).rises

pub invariant_of-self-2 : goal.invariant_of-self-2
invariant_of-self-2 c =
    let width = c.self.inside.lines.width in
    let shows = subst (λ (w : AddedSoFar). Shows c.args.places.now w.width c.requires.0) (sym c.self.view_is) c.requires.1 in
    let shown = shows_row c.requires.0 c.copy_places.new.changes.items width shows.long (c.in_ok-copy_places.ensures c.requires.0 shows) in
    still_writer width c.add.new.self.width c.copy_places.new.changes.items c.add.new.self.above.items c.requires.0 c.self.invariant.wide c.in_ok-add.ensures.width c.in_ok-add.ensures.above shown

pub returns-clause-added : goal.returns-clause-added
returns-clause-added c = λ lines line has shown.
    let inside = c.self.inside.lines in
    let shows = subst (λ (w : AddedSoFar). Shows c.args.places.now w.width line) (sym c.self.view_is) shown in
    let places = c.in_ok-copy_places.ensures line shows in
    let old : AddedSoFar = record { width = inside.width; bits = inside.out; above = inside.above.items } in
    let new : AddedSoFar = record { width = c.add.new.self.width; bits = c.add.new.self.out; above = c.add.new.self.above.items } in
    let had : HasAdded old lines = subst (λ (w : AddedSoFar). HasAdded w lines) (sym c.self.view_is) has in
    line_added old new lines line had c.in_ok-add.ensures.width shows.long (c.in_ok-add.ensures.above ∙ places)
    (λ row over shows shows_over. c.in_ok-add.ensures.coded row over (subst (λ (ps : List ℕ). Shows ps inside.width row) c.in_ok-add.ensures.above shows) shows_over)
