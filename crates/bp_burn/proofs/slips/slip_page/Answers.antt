use Rattle.std.proofs.Common.{◌≡◌, ap, sym, ◌∙◌, subst}
use Rattle.bp_rows.specs.Image.{Image, IsPage, white_image}
use Rattle.bp_rows.specs.declared.resolution.Unit.TheVariants.{Inch}
use Rattle.bp_burn.specs.Band.{band_texts, slip_resolution, slip_text}
use Rattle.bp_burn.specs.Drawn.{is_drawn}
use Rattle.bp_burn.specs.Ink.{inked}
use Rattle.bp_burn.proofs.InkLemmas.{inked_page}
use Rattle.bp_burn.proofs.SlipLemmas.{paper_is_page, slip_made}
use Rattle.bp_burn.proofs.slips.slip_page.Goals as goal
use Rattle.bp_burn.proofs.slips.slip_page.Goals.{After-draw_text}

pub draw_text-requires-clause-page : goal.draw_text-requires-clause-page
draw_text-requires-clause-page c =
    let P : Image → Type 0 = λ page. IsPage page in
    subst P (sym c.in_ok-page.ensures) paper_is_page

drawn : (c : After-draw_text) → c.draw_text.new.page ≡ inked (white_image 1700 2232 slip_resolution slip_resolution Inch) (is_drawn (slip_text c.args.basis) 1000 200 0)
drawn c =
    c.draw_text.ensures
    ∙ ap (λ page. inked page (is_drawn c.as_bytes-text.result.now 1000 200 0)) c.in_ok-page.ensures
    ∙ ap (λ bytes. inked (white_image 1700 2232 slip_resolution slip_resolution Inch) (is_drawn bytes 1000 200 0)) (c.as_bytes-text.ensures.value ∙ c.slip_text.ensures)

pub draw_band-requires-clause-page : goal.draw_band-requires-clause-page
draw_band-requires-clause-page c =
    let P : Image → Type 0 = λ page. IsPage page in
    let paper = white_image 1700 2232 slip_resolution slip_resolution Inch in
    subst P (sym (drawn (goal.at.draw_band-requires-clause-page c).After-draw_text)) (inked_page paper (is_drawn (slip_text c.args.basis) 1000 200 0) paper_is_page)

pub returns : goal.returns
returns c =
    c.draw_band.ensures
    ∙ ap (λ (page : Image). inked page (band_texts page.width 2200 c.args.label.now c.args.designation.now)) (drawn (goal.at.returns c).After-draw_text)
    ∙ slip_made c.args.basis c.args.label.now c.args.designation.now
