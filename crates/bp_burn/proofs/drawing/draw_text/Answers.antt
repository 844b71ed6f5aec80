use Rattle.std.proofs.Common.{ℕ, ◌≡◌, ◌+◌, ◌*◌, length, ap, sym, ◌∙◌, subst, arith}
use Rattle.bp_rows.specs.Image.{Image, IsPage}
use Rattle.bp_burn.specs.Drawn.{is_drawn}
use Rattle.bp_burn.specs.Figures.{glyph_figure}
use Rattle.bp_burn.specs.Ink.{inked}
use Rattle.bp_burn.proofs.InkLemmas.{all_parts, before, inked_page, no_part, part_inked, part_white}
use Rattle.bp_burn.proofs.TextLemmas.{eighteenth, glyph_part_of, no_glyph_part, no_rows, some_rows, text_within}
use Rattle.bp_burn.proofs.drawing.draw_text.Goals as goal
use Rattle.bp_burn.proofs.drawing.draw_text.Goals.{in-Some, in_default}

pub loop-place-init : goal.loop-place-init
loop-place-init c =
    no_part c.args.page.now (λ r col. eighteenth c.args.left (col + c.args.hidden)) (is_drawn c.args.text.now c.args.top c.args.left c.args.hidden) c.requires.page.grid

pub draw_glyph-requires-clause-page : goal.draw_glyph-requires-clause-page
draw_glyph-requires-clause-page c =
    let P : Image → Type 0 = λ page. IsPage page in
    subst P (sym c.loop-place.invariant)
    (inked_page c.args.page.now (before (λ r col. eighteenth c.args.left (col + c.args.hidden)) (is_drawn c.args.text.now c.args.top c.args.left c.args.hidden) c.loop-place.place) c.requires.page)

pub loop-place-preserved : goal.loop-place-preserved
loop-place-preserved c =
    let p = c.args.page.now in
    let text = c.args.text.now in
    let top = c.args.top in
    let left = c.args.left in
    let hidden = c.args.hidden in
    let n = c.loop-place.place in
    let index : ℕ → ℕ → ℕ = λ r col. eighteenth left (col + hidden) in
    let whole = is_drawn text top left hidden in
    elim c.match-rows_of.branch [
      | in-Some w ↦
          let rows = w.in-Some.rows in
          let same = some_rows c.rows_of.result rows text n c.from.result c.args.table.now c.loop-place-test.true c.from.ensures c.requires.table c.rows_of.ensures w.in-Some.is in
          let figure = glyph_figure rows top (left + 18 * n) hidden in
          w.page-is ∙ w.draw_glyph.ensures ∙ ap (λ page. inked page figure) c.loop-place.invariant
          ∙ part_inked p index whole figure n
          (λ r col down across. ap (λ rows. glyph_figure rows top (left + 18 * n) hidden r col) (sym same) ∙ glyph_part_of text top left hidden n r col)
      | in_default w ↦
          let none = no_rows c.rows_of.result text n c.from.result c.args.table.now c.loop-place-test.true c.from.ensures c.requires.table c.rows_of.ensures w.in_default.is in
          w.page-is ∙ c.loop-place.invariant
          ∙ part_white p index whole n (λ r col down across. no_glyph_part text top left hidden n r col none)
    ]

pub returns : goal.returns
returns c =
    let p = c.args.page.now in
    let text = c.args.text.now in
    let index : ℕ → ℕ → ℕ = λ r col. eighteenth c.args.left (col + c.args.hidden) in
    let whole = is_drawn text c.args.top c.args.left c.args.hidden in
    let last : c.loop-place.place ≡ length text = omega arith in
    c.loop-place.invariant ∙ ap (λ n. inked p (before index whole n)) last
    ∙ all_parts p index whole (length text) (λ r col down across is. text_within text c.args.top c.args.left c.args.hidden r col is)
