use Rattle.std.proofs.Common.{◌≡◌, ◌<◌, false, true, ap, refl, sym, ◌∙◌, arith}
use Rattle.bp_rows.specs.Image.{Image, row_of}
use Rattle.bp_burn.proofs.RowLemmas.{same_row}
use Rattle.bp_burn.proofs.covered_rows.cover_row.Goals as goal

-- the row isn't touched
pub returns-then-not-touches_row-clause-row : goal.returns-then-not-touches_row-clause-row
returns-then-not-touches_row-clause-row c = λ p down wide shows touched.
    absurd (let e : true ≡ false = sym touched ∙ (sym c.touches_row.ensures ∙ c.if-not-touches_row.true) in cc)

pub returns-clause-width : goal.returns-clause-width
returns-clause-width c = ap (λ (i : Image). i.width) c.cover_rows.ensures ∙ c.paint_places.ensures.width

pub returns-clause-height : goal.returns-clause-height
returns-clause-height c = ap (λ (i : Image). i.height) c.cover_rows.ensures ∙ (c.paint_places.ensures.height ∙ c.requires.one)

pub returns-clause-row : goal.returns-clause-row
returns-clause-row c = λ p down wide shows touched.
    let q = c.paint_places.new.page in
    let painted = c.paint_places.ensures.row (row_of p c.args.row) shows in
    let one : 0 < q.height = omega (arith, c.paint_places.ensures.height, c.requires.one) in
    ap (λ (i : Image). row_of i 0) c.cover_rows.ensures
    ∙ same_row p q c.args.ink c.args.stamps.now c.args.row (row_of p c.args.row) down one (c.paint_places.ensures.width ∙ sym wide) painted refl
