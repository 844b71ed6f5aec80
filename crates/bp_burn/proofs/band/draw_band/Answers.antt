use Rattle.std.proofs.Common.{◌+◌, ap, sym, ◌∙◌, subst}
use Rattle.bp_rows.specs.Image.{Image, IsPage}
use Rattle.bp_burn.specs.Drawn.{is_drawn}
use Rattle.bp_burn.specs.Ink.{inked}
use Rattle.bp_burn.proofs.AsciiLemmas.{own_bytes}
use Rattle.bp_burn.proofs.BandLemmas.{band_drawn}
use Rattle.bp_burn.proofs.InkLemmas.{inked_page}
use Rattle.bp_burn.proofs.band.draw_band.Goals as goal

pub draw_text-requires-2-clause-page : goal.draw_text-requires-2-clause-page
draw_text-requires-2-clause-page c =
    let P : Image → Type 0 = λ page. IsPage page in
    subst P (sym c.draw_text.ensures) (inked_page c.args.page.now (is_drawn c.as_bytes.result.now (c.args.height + 5) 16 0) c.requires.page)

pub returns : goal.returns
returns c =
    let height = c.args.height in
    let label = c.as_bytes-label.ensures.value ∙ c.as_str.ensures.bytes ∙ own_bytes c.args.label.now c.requires.label in
    let designation = c.as_bytes.ensures.value ∙ c.as_str-2.ensures.bytes ∙ own_bytes c.args.designation.now c.requires.designation in
    c.draw_text-2.ensures
    ∙ ap (λ page. inked page (is_drawn c.as_bytes-label.result.now (height + 5) c.width-width.result (16 + c.hidden_columns.result))) c.draw_text.ensures
    ∙ band_drawn c.args.page.now height c.width-width.result (16 + c.hidden_columns.result) c.args.label.now c.args.designation.now c.as_bytes-label.result.now c.as_bytes.result.now
    label designation c.width-width.ensures.value (ap (λ n. 16 + n) c.hidden_columns.ensures)
