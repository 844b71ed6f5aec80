use Rattle.std.proofs.Common.{◌≡◌, ◌++◌, ℕ, List, Bool, ap, sym, ◌∙◌, subst}
use Rattle.bp_rows.specs.Changes.{Shows}
use Rattle.bp_rows.proofs.ShownLemmas.{shows_row}
use Rattle.bp_t6.specs.SoFar.{AddedSoFar, HasAdded, last_line}
use Rattle.bp_t6.specs.Written.{row_code, white_line}
use Rattle.bp_t6.proofs.SoFarLemmas.{line_copied, still_writer}
use Rattle.bp_t6.proofs.strip_writer.StripWriter.add_code.Goals as goal

pub copy_places-requires : goal.copy_places-requires
copy_places-requires c =
    let shows = subst (λ (w : AddedSoFar). Shows c.args.places.now w.width c.requires.0) (sym c.self.view_is) c.requires.1 in
    shows.rises

pub invariant_of-self-2 : goal.invariant_of-self-2
invariant_of-self-2 c =
    let width = c.self.inside.lines.width in
    let shows = subst (λ (w : AddedSoFar). Shows c.args.places.now w.width c.requires.0) (sym c.self.view_is) c.requires.1 in
    let shown = shows_row c.requires.0 c.copy_places.new.changes.items width shows.long (c.in_ok-copy_places.ensures c.requires.0 shows) in
    still_writer width c.copy.new.self.width c.copy_places.new.changes.items c.copy.new.self.above.items c.requires.0 c.self.invariant.wide c.in_ok-copy.ensures.width c.in_ok-copy.ensures.above shown

pub returns-clause-added : goal.returns-clause-added
returns-clause-added c = λ lines line has shown code.
    let inside = c.self.inside.lines in
    let shows = subst (λ (w : AddedSoFar). Shows c.args.places.now w.width line) (sym c.self.view_is) shown in
    let old : AddedSoFar = record { width = inside.width; bits = inside.out; above = inside.above.items } in
    let new : AddedSoFar = record { width = c.copy.new.self.width; bits = c.copy.new.self.out; above = c.copy.new.self.above.items } in
    let had : HasAdded old lines = subst (λ (w : AddedSoFar). HasAdded w lines) (sym c.self.view_is) has in
    let own : c.args.code.now ≡ row_code (last_line (white_line inside.width) lines) line =
    code ∙ ap (λ (w : AddedSoFar). row_code (last_line (white_line w.width) lines) line) (sym c.self.view_is) in
    line_copied old new lines line had c.in_ok-copy.ensures.width shows.long (c.in_ok-copy.ensures.above ∙ c.in_ok-copy_places.ensures line shows)
    (c.in_ok-copy.ensures.copied ∙ ap (λ bs. inside.out ++ bs) own)
