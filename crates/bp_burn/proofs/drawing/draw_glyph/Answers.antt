use Rattle.std.proofs.Common.{ℕ, ◌≡◌, ◌+◌, ◌*◌, length, ap, sym, ◌∙◌, subst, arith}
use Rattle.bp_rows.specs.Image.{Image, IsPage}
use Rattle.std.specs.Prelude.{slice_index_or}
use Rattle.bp_burn.specs.Figures.{glyph_figure, row_figure}
use Rattle.bp_burn.specs.Ink.{inked}
use Rattle.bp_burn.proofs.FigureLemmas.{glyph_within, row_part_of, third}
use Rattle.bp_burn.proofs.InkLemmas.{all_parts, before, inked_page, no_part, part_inked}
use Rattle.bp_burn.proofs.drawing.draw_glyph.Goals as goal

pub loop-place-init : goal.loop-place-init
loop-place-init c =
    no_part c.args.page.now (λ r col. third c.args.top r) (glyph_figure c.args.rows.now c.args.top c.args.at c.args.hidden) c.requires.page.grid

pub loop-place-preserved : goal.loop-place-preserved
loop-place-preserved c =
    let p = c.args.page.now in
    let rows = c.args.rows.now in
    let top = c.args.top in
    let at = c.args.at in
    let hidden = c.args.hidden in
    let n = c.loop-place.place in
    let figure = row_figure (slice_index_or rows n 0) (top + 3 * n) at hidden in
    c.draw_row.ensures ∙ ap (λ page. inked page figure) c.loop-place.invariant
    ∙ part_inked p (λ r col. third top r) (glyph_figure rows top at hidden) figure n
    (λ r col down across. row_part_of rows top at hidden n r col)

pub returns : goal.returns
returns c =
    let p = c.args.page.now in
    let index : ℕ → ℕ → ℕ = λ r col. third c.args.top r in
    let whole = glyph_figure c.args.rows.now c.args.top c.args.at c.args.hidden in
    let last : c.loop-place.place ≡ length c.args.rows.now = omega (arith, c.told-rows) in
    c.loop-place.invariant ∙ ap (λ n. inked p (before index whole n)) last
    ∙ all_parts p index whole (length c.args.rows.now) (λ r col down across is. glyph_within c.args.rows.now c.args.top c.args.at c.args.hidden r col is)

pub draw_row-requires-clause-page : goal.draw_row-requires-clause-page
draw_row-requires-clause-page c =
    let P : Image → Type 0 = λ page. IsPage page in
    subst P (sym c.loop-place.invariant) (inked_page c.args.page.now (before (λ r col. third c.args.top r) (glyph_figure c.args.rows.now c.args.top c.args.at c.args.hidden) c.loop-place.place) c.requires.page)
