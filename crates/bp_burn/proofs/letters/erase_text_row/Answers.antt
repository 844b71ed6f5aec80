use Rattle.std.proofs.Common.{ℕ, ◌≡◌, ◌+◌, ◌-◌, ◌*◌, ◌==◌, ◌&&◌, false, min, length, ap, sym, ◌∙◌, arith}
use Rattle.bp_rows.specs.Image.{with_pixel}
use Rattle.bp_burn.specs.Figures.{text_row}
use Rattle.bp_burn.specs.Ink.{erased}
use Rattle.bp_burn.proofs.ChangeLemmas.{all_parts_erased, erased_is_grid, no_part_erased, part_erased, part_kept, pixel_erased}
use Rattle.bp_burn.proofs.InkLemmas.{Figure, before}
use Rattle.bp_burn.proofs.LetterLemmas.{black_pixel, from_left, row_within, white_pixel}
use Rattle.bp_burn.proofs.letters.erase_text_row.Goals as goal
use Rattle.bp_burn.proofs.letters.erase_text_row.Goals.{then-has_text_pixel, else-has_text_pixel}

pub loop-u-init : goal.loop-u-init
loop-u-init c =
    no_part_erased c.args.page.now (λ r col. from_left c.args.left col) (text_row c.args.text.now c.args.v c.args.row c.args.left) c.width.ensures.page.grid

pub loop-u-preserved : goal.loop-u-preserved
loop-u-preserved c =
    let p = c.args.page.now in
    let row = c.args.row in
    let left = c.args.left in
    let text = c.args.text.now in
    let v = c.args.v in
    let u = c.loop-u.u in
    let index : ℕ → ℕ → ℕ = λ r col. from_left left col in
    let whole = text_row text v row left in
    elim c.if-has_text_pixel.branch [
      | then-has_text_pixel w ↦
          let pixel : Figure = λ r col. (r == row) && (col == left + u) in
          w.page-is ∙ w.set.ensures ∙ ap (λ page. with_pixel page row (left + u) false) c.loop-u.invariant
          ∙ pixel_erased (erased p (before index whole u)) row (left + u) (erased_is_grid p (before index whole u)) c.requires.down (omega (arith, c.width.ensures.value))
          ∙ part_erased p index whole pixel u (λ r col down across. black_pixel text v row left u r col (sym c.has_text_pixel.ensures ∙ w.if-has_text_pixel.true))
      | else-has_text_pixel w ↦
          w.page-is ∙ c.loop-u.invariant
          ∙ part_kept p index whole u (λ r col down across. white_pixel text v row left u r col (sym c.has_text_pixel.ensures ∙ w.if-has_text_pixel.false))
    ]

pub returns : goal.returns
returns c =
    let p = c.args.page.now in
    let row = c.args.row in
    let left = c.args.left in
    let text = c.args.text.now in
    let v = c.args.v in
    let u = c.loop-u.u in
    let many : u ≡ min (p.width - left) (18 * length text) = omega (arith, c.width.ensures.value) in
    c.loop-u.invariant
    ∙ all_parts_erased p (λ r col. from_left left col) (text_row text v row left) u
    (λ r col down across is. row_within text v row left p.width u r col many across is)
