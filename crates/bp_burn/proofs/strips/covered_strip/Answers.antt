use Rattle.std.proofs.Common.{◌≡◌, ◌<◌, ◌+◌, ℕ, List, Bool, take, sym, ap, ◌∙◌, subst, arith}
use Rattle.std.proofs.lemmas.List.{take_all}
use Rattle.bp_rows.specs.Image.{row_of}
use Rattle.bp_t6.specs.SoFar.{HasAdded, last_line, row_above}
use Rattle.bp_t6.specs.Written.{white_line}
use Rattle.bp_burn.specs.Covered.{covered, covered_pixel}
use Rattle.bp_burn.specs.RowsOut.{IsLine, RowsOut}
use Rattle.bp_burn.proofs.ChangeLemmas.{changed_is_grid}
use Rattle.bp_burn.proofs.MakingLemmas.{imported_width, one_row_more}
use Rattle.bp_burn.proofs.OutLemmas.{at_first, line_out}
use Rattle.bp_burn.proofs.strips.covered_strip.Goals as goal

pub loop-row-init : goal.loop-row-init
loop-row-init c = record {
  are = at_first c.args.lent 0 c.requires.none;
  wide = c.in_ok-writer.ensures.width ∙ c.width-width.ensures;
  added = λ p has. c.in_ok-writer.ensures.none;
}

pub start_writer-requires-clause-some : goal.start_writer-requires-clause-some
start_writer-requires-clause-some c = subst (λ (w : ℕ). 0 < w) (sym c.width-width.ensures) (imported_width c.args.lent.width c.args.lent.height c.requires.sides).0

pub start_writer-requires-clause-wide : goal.start_writer-requires-clause-wide
start_writer-requires-clause-wide c = omega (arith, c.width-width.ensures, (imported_width c.args.lent.width c.args.lent.height c.requires.sides).1)

pub next-requires : goal.next-requires
next-requires c =
    let less : c.loop-row.row < c.args.lent.height = omega (arith, c.loop-row-test.true, c.height-height.ensures) in
    subst (λ (o : RowsOut). o.row < o.height) (sym c.loop-row.invariant.are) less

pub row-requires : goal.row-requires
row-requires c =
    let next = c.next.ensures ∙ ap (λ (o : RowsOut). record o { row = o.row + 1 }) c.loop-row.invariant.are in
    omega (arith, ap (λ (o : RowsOut). o.row) next)

pub add_row-requires : goal.add_row-requires
add_row-requires c =
    let inv = c.loop-row.invariant in
    let first = c.args.lent in
    let p = c.requires.page.page in
    let q = covered first.ink p first.stamps in
    let row = c.loop-row.row in
    let next = c.next.ensures ∙ ap (λ (o : RowsOut). record o { row = o.row + 1 }) inv.are in
    let line = line_out first row c.next.new.self c.row.result next c.row.ensures.line p c.requires.page.are in (
      row_above q row,
      row_of q row,
      subst (λ (w : ℕ). IsLine w (row_above q row) (row_of q row) c.row.result) (sym inv.wide) line,
    )

pub loop-row-preserved : goal.loop-row-preserved
loop-row-preserved c =
    let inv = c.loop-row.invariant in
    let first = c.args.lent in
    let row = c.loop-row.row in
    let width = first.width in
    let next = c.next.ensures ∙ ap (λ (o : RowsOut). record o { row = o.row + 1 }) inv.are in
    record {
      are = next;
      wide = c.in_ok-add_row.ensures.width ∙ inv.wide;
      added = λ p has.
          let q = covered first.ink p first.stamps in
          let grid = changed_is_grid p (covered_pixel first.ink first.stamps) in
          let down : row < p.height = omega (arith, has.high, c.height-height.ensures, c.loop-row-test.true) in
          let lines = take row q.rows in
          let line = line_out first row c.next.new.self c.row.result next c.row.ensures.line p has in
          let above : row_above q row ≡ last_line (white_line width) lines = ap (λ w. last_line (white_line w) lines) has.wide in
          let own : IsLine width (last_line (white_line width) lines) (row_of q row) c.row.result =
          subst (λ (over : List Bool). IsLine width over (row_of q row) c.row.result) above line in
          let there = subst (λ (w : ℕ). IsLine w (last_line (white_line w) lines) (row_of q row) c.row.result) (sym inv.wide) own in
          let P : List (List Bool) → Type 0 = λ all. HasAdded c.add_row.new.writer all in
          subst P (sym (one_row_more q row grid down)) (c.in_ok-add_row.ensures.added lines (row_of q row) (inv.added p has) there);
    }

pub returns-clause-added : goal.returns-clause-added
returns-clause-added c =
    λ p has.
    let first = c.args.lent in
    let q = covered first.ink p first.stamps in
    let grid = changed_is_grid p (covered_pixel first.ink first.stamps) in
    let last : c.loop-row.row ≡ c.height-height.result = omega arith in
    let P : List (List Bool) → Type 0 = λ lines. HasAdded c.loop-row.writer lines in
    subst P (take_all c.loop-row.row q.rows (omega (arith, grid.down, has.high, last, c.height-height.ensures))) (c.loop-row.invariant.added p has)
