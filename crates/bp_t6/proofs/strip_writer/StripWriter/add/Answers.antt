use Rattle.std.proofs.Common.{ℕ, List, false, ap, sym, ◌∙◌, subst}
use Rattle.bp_rows.specs.Changes.{changes_of, Shows}
use Rattle.bp_rows.specs.Runs.{painted_runs}
use Rattle.bp_t6.specs.SoFar.{AddedSoFar, HasAdded}
use Rattle.bp_t6.proofs.SoFarLemmas.{line_added, runs_shown, still_writer}
use Rattle.bp_t6.proofs.strip_writer.StripWriter.add.Goals as goal

pub add-requires-clause-line : goal.add-requires-clause-line
add-requires-clause-line c =
    let places = c.in_ok-push_places.ensures ∙ ap (λ (rs : List ℕ). changes_of (painted_runs false rs)) c.as_slice.ensures in
    let total = c.requires.total ∙ ap (λ (w : AddedSoFar). w.width) (sym c.self.view_is) in
    (runs_shown c.args.runs.now c.push_places.new.places.items c.self.inside.lines.width total places).rises

pub invariant_of-self-2 : goal.invariant_of-self-2
invariant_of-self-2 c =
    let places = c.in_ok-push_places.ensures ∙ ap (λ (rs : List ℕ). changes_of (painted_runs false rs)) c.as_slice.ensures in
    let total = c.requires.total ∙ ap (λ (w : AddedSoFar). w.width) (sym c.self.view_is) in
    let shown = runs_shown c.args.runs.now c.push_places.new.places.items c.self.inside.lines.width total places in
    still_writer c.self.inside.lines.width c.add.new.self.width c.push_places.new.places.items c.add.new.self.above.items (painted_runs false c.args.runs.now) c.self.invariant.wide c.in_ok-add.ensures.width c.in_ok-add.ensures.above shown

pub returns-clause-added : goal.returns-clause-added
returns-clause-added c = λ lines has.
    let inside = c.self.inside.lines in
    let line = painted_runs false c.args.runs.now in
    let places = c.in_ok-push_places.ensures ∙ ap (λ (rs : List ℕ). changes_of (painted_runs false rs)) c.as_slice.ensures in
    let total = c.requires.total ∙ ap (λ (w : AddedSoFar). w.width) (sym c.self.view_is) in
    let shown = runs_shown c.args.runs.now c.push_places.new.places.items inside.width total places in
    let old : AddedSoFar = record { width = inside.width; bits = inside.out; above = inside.above.items } in
    let new : AddedSoFar = record { width = c.add.new.self.width; bits = c.add.new.self.out; above = c.add.new.self.above.items } in
    let had : HasAdded old lines = subst (λ (w : AddedSoFar). HasAdded w lines) (sym c.self.view_is) has in
    line_added old new lines line had c.in_ok-add.ensures.width shown.long (c.in_ok-add.ensures.above ∙ places)
    (λ row over shows shows_over. c.in_ok-add.ensures.coded row over (subst (λ (ps : List ℕ). Shows ps inside.width row) c.in_ok-add.ensures.above shows) shows_over)
