use Rattle.std.proofs.Common.{ℕ, ◌≡◌, ◌+◌, ◌*◌, ap, sym, ◌∙◌, arith}
use Rattle.bp_burn.specs.Figures.{bit_figure, row_figure}
use Rattle.bp_burn.specs.Ink.{inked}
use Rattle.bp_burn.proofs.FigureLemmas.{black_bit, row_within, third, white_bit}
use Rattle.bp_burn.proofs.InkLemmas.{all_parts, before, no_part, part_inked, part_white}
use Rattle.bp_burn.proofs.drawing.draw_row.Goals as goal
use Rattle.bp_burn.proofs.drawing.draw_row.Goals.{then-has_bit, else-has_bit}

pub loop-place-init : goal.loop-place-init
loop-place-init c =
    no_part c.args.page.now (λ r col. third c.args.at (col + c.args.hidden)) (row_figure c.args.row c.args.top c.args.at c.args.hidden) c.requires.page.grid

pub loop-place-preserved : goal.loop-place-preserved
loop-place-preserved c =
    let p = c.args.page.now in
    let row = c.args.row in
    let top = c.args.top in
    let at = c.args.at in
    let hidden = c.args.hidden in
    let n = c.loop-place.place in
    elim c.if-has_bit.branch [
      | then-has_bit w ↦
          w.page-is ∙ w.draw_bit.ensures ∙ ap (λ page. inked page (bit_figure top (at + 3 * n) hidden)) c.loop-place.invariant
          ∙ part_inked p (λ r col. third at (col + hidden)) (row_figure row top at hidden) (bit_figure top (at + 3 * n) hidden) n
          (λ r col down across. black_bit row top at hidden n r col (sym c.has_bit.ensures ∙ w.if-has_bit.true))
      | else-has_bit w ↦
          w.page-is ∙ c.loop-place.invariant
          ∙ part_white p (λ r col. third at (col + hidden)) (row_figure row top at hidden) n
          (λ r col down across. white_bit row top at hidden n r col (sym c.has_bit.ensures ∙ w.if-has_bit.false))
    ]

pub returns : goal.returns
returns c =
    let p = c.args.page.now in
    let index : ℕ → ℕ → ℕ = λ r col. third c.args.at (col + c.args.hidden) in
    let whole = row_figure c.args.row c.args.top c.args.at c.args.hidden in
    let last : c.loop-place.place ≡ 5 = omega arith in
    c.loop-place.invariant ∙ ap (λ n. inked p (before index whole n)) last
    ∙ all_parts p index whole 5 (λ r col down across is. row_within c.args.row c.args.top c.args.at c.args.hidden r col is)
